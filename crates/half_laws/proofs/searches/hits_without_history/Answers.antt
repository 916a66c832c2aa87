use Rattle.half_laws.proofs.lemmas.hits.{hit_law, hit_total_law, hit_history_law, filling_order}
use Rattle.half_laws.proofs.searches.hits_without_history.Goals as goal

pub returns : goal.returns
returns g c = record {
  hit = hit_law _ g.S.KeyHasher.hash;
  total = hit_total_law _ g.S.KeyHasher.hash;
  order = filling_order;
  history = hit_history_law _ g.S.KeyHasher.hash g.L.Limit.LIMIT g.K.PartialEq.eq;
}
