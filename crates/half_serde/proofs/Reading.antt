-- Pairs that are read one after another.
use Rattle.std.proofs.Common.{◌≡◌, ℕ, Bool, List, [], ◌∷◌, ◌++◌, refl, subst, sym, ap, ◌∙◌}
use Rattle.std.proofs.lemmas.Fn.{FoldsTo-push}
use Rattle.serde.specs.Event.{Event}
use Rattle.serde.specs.declared.deserializer.Deserializer.{Deserializer}
use Rattle.halfbrown.specs.Collect.{put_all}
use Rattle.halfbrown.specs.Pairs.{put}
use Rattle.halfbrown.specs.State.{State}
use Rattle.half_serde.specs.Reading.{ReadsEntry, ReadsPairs}

put_last : {K V : Type 0} (eq : K → K → Bool) (ps items : List (K × V)) (k : K) (v : V)
    → put_all eq ps (items ++ (k, v) ∷ []) ≡ put eq (put_all eq ps items) k v
put_last eq ps [] k v = refl
put_last eq ps (p ∷ items) k v = put_last eq (put eq ps p.0 p.1) items k v

module _ {F E M K V S : Type 0} (gives : F → List ℕ → Event → F → Type 0)
    (key : K → Deserializer F E M → Deserializer F E M → Type 0) (value : V → Deserializer F E M → Deserializer F E M → Type 0)
    (eq : K → K → Bool) (is_default : S → Type 0) where
  -- no entry is read yet
  pub reads_none : (old : Deserializer F E M) (map : State K V S) → map.pairs ≡ [] → is_default map.builder
      → ReadsPairs gives key value eq is_default old map old
  reads_none old map empty builder = record { gave = []; entries = refl; pairs = empty; builder = builder }

  -- one entry more, whose pair is put
  pub reads_more : (old now new : Deserializer F E M) (map after : State K V S) (k : K) (v : V)
      → ReadsPairs gives key value eq is_default old map now → ReadsEntry gives key value now (k, v) new
      → after.pairs ≡ put eq map.pairs k v → after.builder ≡ map.builder
      → ReadsPairs gives key value eq is_default old after new
  reads_more old now new map after k v reads entry puts same = record {
    gave = reads.gave ++ (k, v) ∷ [];
    entries = FoldsTo-push (ReadsEntry gives key value) old reads.gave now (k, v) new reads.entries entry;
    pairs = puts ∙ ap (λ ps. put eq ps k v) reads.pairs ∙ sym (put_last eq [] reads.gave k v);
    builder = subst is_default (sym same) reads.builder;
  }
