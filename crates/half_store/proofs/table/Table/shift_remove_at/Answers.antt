use Rattle.half_store.proofs.Common.{◌≡◌, ◌+◌, ◌*◌, length, slice_index, vec_capacity, reach, ◌++◌, ◌∙◌, arith, ℕ, ◌-◌, ◌<◌, suc, sym, ap, List, subst, [], ◌∷◌, get_or_default, IsIndexed, ReadsWithin, removal_reads, looked_more, words_of}
use Rattle.half_store.specs.Capacity.{capacity_of}
use Rattle.half_store.specs.StoreRemoval.{MovesToEnd}
use Rattle.half_store.specs.Table.{TableState}
use Rattle.half_store.specs.Words.{greatest_word}
use Rattle.half_store.proofs.lemmas.table.Find.{table_steps}
use Rattle.half_store.proofs.lemmas.table.Shift.{IsIndexed-moved, reads-moved}
use Rattle.half_store.proofs.lemmas.tally.{looked_less}
use Rattle.half_store.proofs.table.Table.shift_remove_at.Goals.{in-FourBytes, in-EightBytes}
use Rattle.half_store.proofs.table.Table.shift_remove_at.Goals as goal

pub invariant_of-self : goal.invariant_of-self
invariant_of-self c =
    let hs : List ℕ = c.self.inside.hashes.items in
    let index = c.args.index in
    let pairs : c.len-pairs.result ≡ length hs = grind (arith, table_steps) in
    let within : index < length hs = grind (arith, table_steps) in
    let column : c.match-self.self-inside.hashes ≡ c.self.inside.hashes =
    elim c.match-self.branch [ in-FourBytes w ↦ ap (λ t. t.hashes) w.self-inside-is | in-EightBytes w ↦ ap (λ t. t.hashes) w.self-inside-is ] in
    let moves : MovesToEnd (length hs) index (words_of c.self.inside.buckets) (words_of c.match-self.self-inside.buckets) =
    elim c.match-self.branch [
      | in-FourBytes w ↦ rw (sym pairs, ap (λ t. words_of t.buckets) w.self-inside-is, ap words_of w.in-FourBytes.is) w.move_to_end.ensures.moves
      | in-EightBytes w ↦
          rw (sym pairs, ap (λ t. words_of t.buckets) w.self-inside-is, ap words_of w.in-EightBytes.is) w.move_to_end-in-EightBytes.ensures.moves
    ] in
    let most : greatest_word c.match-self.self-inside.buckets ≡ greatest_word c.self.inside.buckets =
    elim c.match-self.branch [
      | in-FourBytes w ↦ ap (λ t. greatest_word t.buckets) w.self-inside-is ∙ sym (ap greatest_word w.in-FourBytes.is)
      | in-EightBytes w ↦ ap (λ t. greatest_word t.buckets) w.self-inside-is ∙ sym (ap greatest_word w.in-EightBytes.is)
    ] in
    let hash = (rw column at c.remove-hash.ensures.value) ∙ get_or_default hs index c.remove-hash.result 0 within in
    let rest = (rw column at c.remove-hash.ensures.items) in
    let same = c.push_reserved.ensures.items ∙ (λ i. rest i ++ hash i ∷ []) in
    record {
      indexed = subst (λ xs. IsIndexed xs (words_of c.match-self.self-inside.buckets)) (sym same)
          (IsIndexed-moved hs index within c.self.invariant.indexed moves);
      sized = rw (most, moves.len) c.self.invariant.sized;
      exact = c.push_reserved.ensures.capacity ∙ c.remove-hash.ensures.capacity ∙ ap vec_capacity column ∙ c.self.invariant.exact ∙ sym (ap capacity_of moves.len);
    }

pub returns-clause-cost : goal.returns-clause-cost
returns-clause-cost c =
    let hs : List ℕ = c.self.inside.hashes.items in
    let index = c.args.index in
    let m : ℕ = length (words_of c.self.inside.buckets) in
    let pairs : c.len-pairs.result ≡ length hs = grind (arith, table_steps) in
    let within : index < length hs = grind (arith, table_steps) in
    let last : suc (c.len-pairs.result - 1) ≡ length hs = omega (arith, pairs, within) in
    let column : c.match-self.self-inside.hashes ≡ c.self.inside.hashes =
    elim c.match-self.branch [ in-FourBytes w ↦ ap (λ t. t.hashes) w.self-inside-is | in-EightBytes w ↦ ap (λ t. t.hashes) w.self-inside-is ] in
    let len : length (words_of c.match-self.self-inside.buckets) ≡ m =
    elim c.match-self.branch [
      | in-FourBytes w ↦ rw (ap (λ t. words_of t.buckets) w.self-inside-is, ap words_of w.in-FourBytes.is) w.move_to_end.ensures.moves.len
      | in-EightBytes w ↦ rw (ap (λ t. words_of t.buckets) w.self-inside-is, ap words_of w.in-EightBytes.is) w.move_to_end-in-EightBytes.ensures.moves.len
    ] in
    let pass : c.match-self.tally ≡ looked_more m c.args.tally.now =
    elim c.match-self.branch [
      | in-FourBytes w ↦ rw (w.tally-is, ap words_of w.in-FourBytes.is) w.move_to_end.ensures.cost
      | in-EightBytes w ↦ rw (w.tally-is, ap words_of w.in-EightBytes.is) w.move_to_end-in-EightBytes.ensures.cost
    ] in
    let hash = (rw column at c.remove-hash.ensures.value) ∙ get_or_default hs index c.remove-hash.result 0 within in
    let rest = (rw column at c.remove-hash.ensures.items) in
    let same = c.push_reserved.ensures.items ∙ (λ i. rest i ++ hash i ∷ []) in
    let least : ReadsWithin (removal_reads c.push_reserved.new.self.items (length (words_of c.match-self.self-inside.buckets)) (c.len-pairs.result - 1))
    c.match-self.tally c.remove_at.new.tally = looked_less _ _ c.remove_at.ensures.cost in
    let told = (rw (same, len) at least) in
    subst (λ (t : TableState). ReadsWithin (t.buckets + 2 * reach t.hashes t.buckets (slice_index t.hashes index)) c.args.tally.now c.remove_at.new.tally)
    c.self.view_is
    (record {
      asked = told.asked ∙ ap (λ w. w.asked) pass;
      compared = told.compared ∙ ap (λ w. w.compared) pass;
      looked = omega (arith, told.looked, ap (λ w. w.looked) pass, reads-moved hs index within (c.len-pairs.result - 1) last m);
    })
