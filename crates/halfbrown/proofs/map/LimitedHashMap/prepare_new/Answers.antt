use Rattle.halfbrown.proofs.Common.{ap, ◌∙◌, sym, holds}
use Rattle.halfbrown.proofs.lemmas.map.Growth.{form_stays}
use Rattle.halfbrown.proofs.lemmas.pairs.Indices.{absent_of_unheld}
use Rattle.halfbrown.proofs.lemmas.map.Find.{vacancy_for}
use Rattle.halfbrown.proofs.map.LimitedHashMap.prepare_new.Goals as goal

pub returns-clause-vacancy : goal.returns-clause-vacancy
returns-clause-vacancy g c =
    let eq = g.K.PartialEq.eq in
    let key = c.args.key.now in
    let hash = g.S.KeyHasher.hash in
    let prepared = c.in_ok-reserve_one.ensures in
    let opened = c.switch_if_full.new.self in
    let now = c.reserve_one.new.self in
    record {
      absent = absent_of_unheld (eq key) now.pairs
          (ap (λ ps. holds eq ps key) (prepared.prepares.ok.pairs ∙ c.in_ok-switch_if_full.ensures.prepares.ok.pairs) ∙ c.requires);
      capacity = prepared.capacity;
      vacant = vacancy_for now c.hash_in_table-hash.result (hash now.builder key)
          (λ form.
          c.hash_in_table-hash.ensures.hash
          (form_stays opened.is_vec _ c.in_ok-switch_if_full.ensures.not_full ∙ sym prepared.prepares.ok.form ∙ form)
          ∙ sym (g.met.S.KeyHasher.hash_is opened.builder key) ∙ ap (λ s. hash s key) (sym prepared.prepares.ok.builder))
          c.vacancy_for.result c.vacancy_for.ensures.vacant;
    }
