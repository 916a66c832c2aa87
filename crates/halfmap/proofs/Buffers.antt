-- A new buffer before a reader or a writer leaves its bytes as they are.
use Rattle.halfmap.proofs.Common.{◌≡◌, ℕ, List, [], Some, None, refl, ap, append-nil, arith, common_steps, Option}
use Rattle.halfmap.proofs.Common.{reader_remaining, reader_inner, reader_buffer, reader_capacity, writer_contents, writer_inner}
use Rattle.halfmap.proofs.Common.{writer_buffer, append_known, prepend_known-nil}
use Rattle.std.specs.declared.io.buffered.BufReader.{BufReader}
use Rattle.std.specs.declared.io.buffered.BufWriter.{BufWriter}

pub reader_starts : {T A : Type 0} (remaining : T → Option (List ℕ)) (r : BufReader T A) (inner : T)
    → reader_inner r ≡ inner → reader_buffer r ≡ [] → reader_capacity r ≡ 8192 → reader_remaining remaining r ≡ remaining inner
reader_starts remaining r inner e empty capacity = grind (arith, common_steps, prepend_known-nil (remaining r.inner))

append_known-nil : (known : Option (List ℕ)) → append_known known [] ≡ known
append_known-nil None = refl
append_known-nil (Some xs) = ap Some (append-nil xs)

pub writer_starts : {T A : Type 0} (contents : T → Option (List ℕ)) (w : BufWriter T A) (inner : T)
    → writer_inner w ≡ inner → writer_buffer w ≡ [] → writer_contents contents w ≡ contents inner
writer_starts contents w inner e empty = grind (arith, common_steps, append_known-nil (contents w.inner))
