use Rattle.half_store.proofs.Common.{◌≡◌, ◌<◌, length, take, refl, ◌∙◌, arith, sym, ap, get_or, subst, map, common_steps}
use Rattle.std.specs.List.{swap}
use Rattle.std.specs.Map.Calls.{CalledAtPair, TakesPair}
use Rattle.std.proofs.lemmas.List.{take-map, length-map}
use Rattle.std_collections.proofs.IndexTableLemmas.Indexes.{map-swap, swap_self}
use Rattle.std_collections.proofs.RetainLoop.{asked, passed, kept, ended}
use Rattle.std_collections.proofs.Zip.{retains_zip}
use Rattle.half_store.proofs.vecmap.retain.retain_in_columns.Goals.{then-f, then-index-hashes, else-index-hashes, else-f}
use Rattle.half_store.proofs.vecmap.retain.retain_in_columns.Goals as goal

pub loop-index-init : goal.loop-index-init
loop-index-init g c = record {
  within = omega arith;
  sifted = record { ready = c.requires.callable; rest = λ ls ws run. run };
  hashes = λ hash same. same;
  same = λ all. refl;
}

pub f-requires : goal.f-requires
f-requires g c =
    let l = c.loop-index in
    let in_keys : l.index < length l.keys = omega (arith, l.auto.keys, c.loop-index-test.true) in
    asked (CalledAtPair g.F.FnMut) (TakesPair g.F.FnMut) l.invariant.sifted _ _ in_keys
    (omega (arith, in_keys, l.auto.keys, l.auto.values, c.requires.even))
    (ap (get_or l.keys l.index) c.index-keys-index.is) (ap (get_or l.values l.index) c.index-values-index.is) _ _ refl refl

pub loop-index-preserved : goal.loop-index-preserved
loop-index-preserved g c =
    let l = c.loop-index in
    let T = CalledAtPair g.F.FnMut in
    let Q = TakesPair g.F.FnMut in
    let k = get_or l.keys l.index c.index-keys-index.result in
    let v = get_or l.values l.index c.index-values-index.result in
    let w = c.f.new.arg3 in
    let at_k = ap (get_or l.keys l.index) c.index-keys-index.is in
    let at_v = ap (get_or l.values l.index) c.index-values-index.is in
    let in_keys : l.index < length l.keys = omega (arith, l.auto.keys, c.loop-index-test.true) in
    let in_values : l.index < length l.values = omega (arith, in_keys, l.auto.keys, l.auto.values, c.requires.even) in
    let called : CalledAtPair g.F.FnMut l.f k v c.f.result w c.f.new.self =
    record { key = _; value = _; shows = (refl, refl); left = _; called = c.f.ensures; leaves = refl } in
    elim c.if-f.branch [
      | then-f stays ↦
          let accepted = subst (λ b. CalledAtPair g.F.FnMut l.f k v b w c.f.new.self) stays.if-f.true called in
          let keys : c.if-f.keys ≡ swap l.keys l.kept l.index = stays.keys-is ∙ stays.swap.ensures.after in
          record {
            within = omega (arith, stays.kept-is, l.invariant.within);
            sifted = kept T Q l.invariant.sifted k v in_keys in_values at_k at_v l.invariant.within w c.f.new.self
                c.if-f.keys c.if-f.values c.if-f.kept accepted keys (stays.values-is ∙ stays.swap-then-f.ensures.after) stays.kept-is;
            hashes = elim stays.if-index-hashes.branch [
              | then-index-hashes moved ↦ λ hash same.
                  stays.hashes-is ∙ moved.hashes-is ∙ moved.swap-then-index-hashes.ensures.after
                  ∙ ap (λ hs. swap hs l.kept l.index) (l.invariant.hashes hash same)
                  ∙ sym (map-swap hash l.keys l.kept l.index) ∙ ap (map hash) (sym keys)
              | else-index-hashes none ↦ λ hash same.
                  absurd (omega (
                    arith,
                    none.if-index-hashes.false,
                    l.auto.hashes,
                    l.auto.keys,
                    ap length same,
                    length-map c.args.keys.now hash,
                    c.loop-index-test.true,
                  ))
            ];
            same = λ all. elim stays.if-index-hashes.branch [
              | then-index-hashes moved ↦
                  let first : l.kept ≡ l.index = omega (arith, stays.kept-is, all) in
                  stays.hashes-is ∙ moved.hashes-is ∙ moved.swap-then-index-hashes.ensures.after ∙ ap (λ n. swap l.hashes n l.index) first
                  ∙ swap_self l.hashes l.index ∙ l.invariant.same first
              | else-index-hashes none ↦ stays.hashes-is ∙ none.hashes-is ∙ l.invariant.same (omega (arith, stays.kept-is, all))
            ];
          }
      | else-f goes ↦
          let rejected = subst (λ b. CalledAtPair g.F.FnMut l.f k v b w c.f.new.self) goes.if-f.false called in
          record {
            within = omega (arith, goes.kept-is, l.invariant.within);
            sifted = passed T Q l.invariant.sifted k v in_keys in_values at_k at_v l.invariant.within w c.f.new.self
                c.if-f.keys c.if-f.values c.if-f.kept rejected goes.keys-is goes.values-is goes.kept-is;
            hashes = λ hash same. goes.hashes-is ∙ l.invariant.hashes hash same ∙ ap (map hash) (sym goes.keys-is);
            same = λ all. absurd (omega (arith, goes.kept-is, l.invariant.within));
          }
    ]

pub returns-clause-kept : goal.returns-clause-kept
returns-clause-kept g c =
    let l = c.loop-index in
    let T = CalledAtPair g.F.FnMut in
    (retains_zip T c.args.f c.args.keys.now c.args.values.now (take l.kept l.keys) (take l.kept l.values)
    (ended T (TakesPair g.F.FnMut) l.invariant.sifted
    (omega (arith, l.auto.keys, l.auto.values, c.requires.even, c.loop-index-test.false)) _ _ refl refl)).1

pub returns-clause-hashes : goal.returns-clause-hashes
returns-clause-hashes g c = grind (arith, common_steps, take, take-map)
