use Rattle.json_value.proofs.Common.{◌≡◌, ◌≢◌, None, sym, ◌∙◌, arith, rules, strip_prefix_char, value_at}
use Rattle.json_value.proofs.Changing.{path_steps}
use Rattle.json_value.proofs.Placed.{put_at_other, put_at_there}
use Rattle.json_value.proofs.value.Value.set_at.Goals as goal

pub returns : goal.returns
returns c =
    let v = c.args.self.now in
    let path = c.args.path.now in
    let there : value_at v path ≢ None = λ none. grind arith in
    let cut = strip_prefix_char 47 path c.strip_prefix.result c.strip_prefix.ensures.cases (omega arith) in
    let same = path_steps v path c.strip_prefix.result cut there in
    let found : c.set_steps.result ≡ value_at v path = c.set_steps.ensures.before ∙ sym same.0 in
    let put = same.1 c.args.value in
    record { before = search rules; after = search rules; there = search (rules, put_at_there); others = search (rules, put_at_other); missing = search rules }
