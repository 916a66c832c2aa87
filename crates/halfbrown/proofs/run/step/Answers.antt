use Rattle.halfbrown.proofs.Common.{refl, ap, ◌∙◌}
use Rattle.halfbrown.specs.declared.run.Reply.TheVariants.{Form, Found, Length, Removed}
use Rattle.halfbrown.proofs.lemmas.map.Costs.{key_costs, spent_none}
use Rattle.halfbrown.proofs.run.step.Goals as goal

pub returns-in-Insert : goal.returns-in-Insert
returns-in-Insert g c = rw c.in-Insert.is c.insert.ensures

pub returns-in-InsertNew : goal.returns-in-InsertNew
returns-in-InsertNew g c = rw c.in-InsertNew.is c.insert_new.ensures

pub returns-in-EntryOrInsert : goal.returns-in-EntryOrInsert
returns-in-EntryOrInsert g c = rw c.in-EntryOrInsert.is c.entry_or_insert.ensures

pub returns-in-RawOrInsert : goal.returns-in-RawOrInsert
returns-in-RawOrInsert g c = rw c.in-RawOrInsert.is c.raw_or_insert.ensures

pub returns-in-Clear : goal.returns-in-Clear
returns-in-Clear g c = rw c.in-Clear.is (record { step = (refl, c.clear.ensures.after); cost = spent_none _ })

pub returns-in-Reserve : goal.returns-in-Reserve
returns-in-Reserve g c = rw c.in-Reserve.is (record { step = c.reserve.ensures; cost = spent_none _ })

pub returns-in-Shrink : goal.returns-in-Shrink
returns-in-Shrink g c =
    rw c.in-Shrink.is (record { step = (ap (λ b. Form b) c.is_vec.ensures.form, c.shrink_to_fit.ensures.after); cost = spent_none _ })

pub returns-in-Get : goal.returns-in-Get
returns-in-Get g c =
    let m = c.args.map.now in
    let law = g.met.S.KeyHasher.hash_is m.builder c.in-Get.key in
    rw c.in-Get.is (record {
      step = (ap (λ v. Found v) (c.copied.ensures ∙ c.get_counted.ensures.value), refl);
      cost = (key_costs g.K.PartialEq.eq g.S.KeyHasher.hash m _ _ _ _ law c.get_counted.ensures.cost).grew;
    })

pub returns-in-Remove : goal.returns-in-Remove
returns-in-Remove g c =
    let m = c.args.map.now in
    let law = g.met.S.KeyHasher.hash_is m.builder c.in-Remove.key in
    let removes = c.remove_entry_counted.ensures.removes in
    rw c.in-Remove.is (record {
      step = (ap (λ v. Removed v) removes.returned, removes.after);
      cost = (key_costs g.K.PartialEq.eq g.S.KeyHasher.hash m _ _ _ _ law c.remove_entry_counted.ensures.cost).grew;
    })

pub returns-in-IsVec : goal.returns-in-IsVec
returns-in-IsVec g c =
    rw c.in-IsVec.is (record { step = (ap (λ b. Form b) c.is_vec-in-IsVec.ensures.form, refl); cost = spent_none _ })

pub returns-in-Len : goal.returns-in-Len
returns-in-Len g c = rw c.in-Len.is (record { step = (ap (λ n. Length n) c.len.ensures.len, refl); cost = spent_none _ })
