use Rattle.halfmap.proofs.Common.{[], length, take, Some, refl, subst, FillKeeps, reader_remaining, reader_buffer}
use Rattle.halfmap.proofs.Reading.{no_flag, reads_nothing, keeps_nothing, reads_shown}
use Rattle.halfmap.proofs.lines.read_part.Goals as goal

pub returns-in-Err : goal.returns-in-Err
returns-in-Err g c = ([], keeps_nothing _ _ _ refl, reads_nothing _ _ _ c.fill_buf.follows.holds-at-none.0 (λ e. cc))

pub returns-in-Err-2 : goal.returns-in-Err-2
returns-in-Err-2 g c = ([], keeps_nothing _ _ _ refl, reads_nothing _ _ _ c.fill_buf.follows.holds-at-none.0 (λ e. cc))

pub returns-in_err-keep : goal.returns-in_err-keep
returns-in_err-keep g c = (
  [],
  keeps_nothing _ _ _ c.in_err-keep.ensures.err,
  reads_nothing _ _ _ c.fill_buf.follows.holds-at-none.0 (no_flag _ c.from_residual.ensures.0),
)

pub returns : goal.returns
returns g c =
    let rested = c.fill_buf.follows.lender-at-none in
    let known = reader_remaining g.R.Read.remaining rested in
    let room = Some (length (reader_buffer rested)) in
    let filled = subst (FillKeeps _ known room) c.in-Ok.is c.fill_buf.follows.holds-at-none in (
      take c.part_of_line-len.result.0 c.in-Ok.bytes.now,
      c.in_ok-keep.ensures.ok,
      reads_shown _ known _ room c.in-Ok.bytes.now _ _ _ refl c.part_of_line-len.ensures c.in-Ok.ensures.front c.in-Ok.ensures.end filled.0
          filled.1 c.consume.ensures.bytes,
    )
