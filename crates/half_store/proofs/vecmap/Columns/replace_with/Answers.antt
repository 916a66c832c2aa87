use Rattle.half_store.proofs.Common.{◌≡◌, length, ◌++◌, refl, ◌∙◌, arith, ◌-◌, ◌<◌, sym, ap, Some, None, subst, [], ◌∷◌, get_or_default}
use Rattle.std.specs.List.{SwappedAt}
use Rattle.half_store.proofs.lemmas.vecmap.Columns.{columns_steps, opened, pair_read}
use Rattle.half_store.proofs.lemmas.vecmap.Replace.{restored}
use Rattle.half_store.proofs.vecmap.Columns.replace_with.Goals as goal

pub f-requires : goal.f-requires
f-requires g c =
    let o = opened c.self.inside.keys c.self.inside.values c.args.self.now c.self.view_is c.self.invariant in
    c.requires.callable c.index.result c.swap_remove-value.result
    (pair_read o c.args.index c.requires.within c.index.ensures c.swap_remove-value.ensures.value)

pub returns-in-Some-clause-replaces : goal.returns-in-Some-clause-replaces
returns-in-Some-clause-replaces g c =
    let values = c.self.inside.values.items in
    let index = c.args.index in
    let o = opened c.self.inside.keys c.self.inside.values c.args.self.now c.self.view_is c.self.invariant in
    let taken = c.swap_remove-value in
    let last : c.len-last.result - 1 ≡ length values - 1 = grind (arith, columns_steps) in
    let long : length c.swap.new.self.items ≡ length values = grind (arith, columns_steps) in
    let pushed = c.push_reserved.ensures.items ∙ ap (λ l. l ++ c.in-Some.value ∷ []) taken.ensures.items in
    let swapped = subst (SwappedAt c.push_reserved.new.self.items c.swap.new.self.items index) last c.swap.ensures.by_index in
    record {
      key = c.index.result.now;
      value = taken.result;
      answer = Some c.in-Some.value;
      pair = pair_read o index c.requires.within c.index.ensures taken.ensures.value;
      answered = record { shown = c.index.result; shows = refl; met = c.in-Some.ensures };
      pairs =
          let back = restored values c.push_reserved.new.self.items c.swap.new.self.items index taken.result c.in-Some.value
          (omega (arith, o.values_length, c.requires.within)) pushed swapped long in
          grind (arith, columns_steps);
      removed_is = refl;
    }

pub returns-in-None-clause-replaces : goal.returns-in-None-clause-replaces
returns-in-None-clause-replaces g c =
    let keys = c.self.inside.keys.items in
    let index = c.args.index in
    let o = opened c.self.inside.keys c.self.inside.values c.args.self.now c.self.view_is c.self.invariant in
    let taken = c.swap_remove-value in
    let in_keys : index < length keys = omega (arith, o.keys_length, c.requires.within) in
    record {
      key = c.index.result.now;
      value = taken.result;
      answer = None;
      pair = pair_read o index c.requires.within c.index.ensures taken.ensures.value;
      answered = record { shown = c.index.result; shows = refl; met = c.in-None.ensures };
      pairs = grind (arith, columns_steps);
      removed_is = ap Some (c.swap_remove.ensures.value ∙ get_or_default keys index _ _ in_keys ∙ sym c.index.ensures);
    }
