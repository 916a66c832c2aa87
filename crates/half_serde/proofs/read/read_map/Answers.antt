use Rattle.std.proofs.Common.{◌≡◌, arith}
use Rattle.std.proofs.lemmas.Grind.{common_steps}
use Rattle.halfbrown.specs.Pairs.{put}
use Rattle.half_serde.proofs.Reading.{reads_none, reads_more}
use Rattle.half_serde.proofs.read.read_map.Goals as goal

pub loop-init : goal.loop-init
loop-init g c =
    let made = c.default-map.ensures.made in
    reads_none g.F.Format.gives g.R.Reads-1.reads g.R.Reads-2.reads g.K.PartialEq.eq g.H.Default.is_default c.begin_map.new.self
    c.default-map.result made.pairs made.builder

pub loop-preserved : goal.loop-preserved
loop-preserved g c =
    let begins = rw c.if-not-branch.false at c.in_ok-next_entry.ensures in
    let puts : c.insert.new.self.pairs ≡ put g.K.PartialEq.eq c.loop.map.pairs c.in_ok-key.key c.in_ok-key.value = grind (arith, common_steps) in
    let same : c.insert.new.self.builder ≡ c.loop.map.builder = grind (arith, common_steps) in
    reads_more g.F.Format.gives g.R.Reads-1.reads g.R.Reads-2.reads g.K.PartialEq.eq g.H.Default.is_default c.begin_map.new.self
    c.loop.from c.read_pair.new.from c.loop.map c.insert.new.self c.in_ok-key.key c.in_ok-key.value c.loop.invariant
    (c.next_entry.new.self, begins, c.in_ok-key.ensures) puts same

pub returns-then-not-branch : goal.returns-then-not-branch
returns-then-not-branch g c = record {
  begun = c.begin_map.new.self;
  last = c.loop.from;
  begins = c.in_ok-begin_map.ensures;
  reads = c.loop.invariant;
  ends = rw c.if-not-branch.true at c.in_ok-next_entry.ensures;
}
