use Rattle.halfbrown.proofs.Common.{◌≡◌, true, false, refl, ap, ◌∙◌, sym, subst, map, rules, keys_of, state_in}
use Rattle.std.proofs.lemmas.Map.Entries.{entries_from_clone}
use Rattle.std.proofs.lemmas.Slice.Zip.{AllZip-long}
use Rattle.std.specs.List.{AllZip}
use Rattle.halfbrown.specs.Making.{ClonesEqualKeys, HashesAlike, IsCloneOf}
use Rattle.halfbrown.proofs.lemmas.map.Layout.{keys_zip, zip_held, map-zip, kept_cloned, state_of}
use Rattle.halfbrown.proofs.map.LimitedHashMap.clone_with.Goals as goal

pub invariant_of-result : goal.invariant_of-result
invariant_of-result g c =
    let eq = g.K.PartialEq.eq in
    let C = g.K.Clone.is_clone in
    let D = g.V.Clone.is_clone in
    let hash_all = g.S.KeyHasher.hash in
    let before = c.self.inside.builder in
    let after = c.args.builder in
    let law = g.met.S.KeyHasher.hash_is after in
    let hash = hash_all before in
    let also_hash = hash_all after in
    let old = c.self.inside.store in
    let new = c.in_ok-store.store in
    let cloned = c.in_ok-store.ensures.cloned in
    let held = keys_zip C D old.pairs new.pairs cloned.pairs in
    let equal = subst (ClonesEqualKeys eq C) (sym c.self.view_is) c.requires.keys in
    let hashes_alike = subst (λ m. HashesAlike hash_all m after) (sym c.self.view_is) c.requires.builder in
    let alike : AllZip (λ k l. eq k l ≡ true) (keys_of old.pairs) (keys_of new.pairs) =
    zip_held C (λ k l. eq k l ≡ true) (keys_of old.pairs) (keys_of new.pairs) equal held in
    let hashed : old.is_vec ≡ false → map also_hash (keys_of new.pairs) ≡ map hash (keys_of old.pairs) =
    λ table. map-zip hash also_hash (keys_of old.pairs) (keys_of new.pairs)
    (zip_held C (λ k l. also_hash l ≡ hash k) (keys_of old.pairs) (keys_of new.pairs)
    (λ k l inside is_clone. law l
    ∙ ap (g.S.KeyHasher.hash_writes after) (sym (g.met.K.Hash.respects_eq k l (equal k l inside is_clone)))
    ∙ sym (law k) ∙ hashes_alike k table inside) held) in
    kept_cloned eq g.met.K.Eq.laws hash also_hash g.L.Limit.LIMIT old new c.self.invariant cloned.form
    (AllZip-long (λ p q. C p.0 q.0 × D p.1 q.1) old.pairs new.pairs cloned.pairs) alike hashed cloned.capacity cloned.hashes

pub returns-clause-cloned : goal.returns-clause-cloned
returns-clause-cloned g c =
    let C = g.K.Clone.is_clone in
    let D = g.V.Clone.is_clone in
    let old = c.self.inside.store in
    let new = c.in_ok-store.store in
    let cloned = c.in_ok-store.ensures.cloned in
    let made = state_in new c.args.builder in
    subst (λ m. IsCloneOf C D (λ b it. it ≡ c.args.builder) m made) c.self.view_is (record {
      form = cloned.form;
      pairs = cloned.pairs;
      same = λ keys values. entries_from_clone C D keys values old.pairs new.pairs cloned.pairs;
      capacity = search rules;
      builder = refl;
    })

pub returns-clause-valid : goal.returns-clause-valid
returns-clause-valid g c = state_of _ _ _ _ _ (invariant_of-result g c)
