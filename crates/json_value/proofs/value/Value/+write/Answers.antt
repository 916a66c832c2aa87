use Rattle.json_value.proofs.Common.{◌≡◌, ◌+◌, ◌≤◌, [], ◌∷◌, ◌++◌, map, take, append-nil, sym, ap, subst, ◌∙◌, arith, rules}
use Rattle.json_value.proofs.Common.{append_assoc, flat_map_more, map-append, take_all, take_more, flat_map, deref_pair}
use Rattle.json_value.proofs.Common.{string_bytes, pairs_left, items_depth, members_depth, ItemsHaveNumbers, MembersHaveNumbers}
use Rattle.json_value.proofs.Common.{items_of, json_of}
use Rattle.json.specs.Token as token
use Rattle.json_value.proofs.Reading.{seen}
use Rattle.json_value.proofs.Writing.{json_of-List, json_of-Object, member_tokens, shown, value_tokens, items_nest, members_nest}
use Rattle.json_value.proofs.Writing.{list_tokens, object_tokens, writable_as, item_writable, member_writable}
use Rattle.json_value.proofs.value.Value.+write.Goals as goal
use Rattle.json_value.specs.Json.{members_of}

pub loop-item-preserved : goal.loop-item-preserved
loop-item-preserved t c =
    let l = c.loop-item in
    let xs = c.deref-item-items.result.now in
    let x = c.item-item.result in
    let start = c.begin_array.new.self.tokens in
    let inner = c.in_ok-inner-in-List.inner in
    let more : take (l.item-index + 1) xs ≡ take l.item-index xs ++ x ∷ [] =
    take_more xs l.item-index x (omega arith) ∙ ap (λ y. take l.item-index xs ++ y ∷ []) (sym c.item-item.is) in
    let done = c.in_ok-write-in-List.ensures in
    rw more (
      rw (done.tokens, l.invariant.0) (flat_map_more value_tokens start (take l.item-index xs) x),
      done.before ∙ l.invariant.1,
      items_nest inner (take l.item-index xs) x l.invariant.2 done.nests,
    )

pub returns-in_ok-end_array-in-List : goal.returns-in_ok-end_array-in-List
returns-in_ok-end_array-in-List t c =
    let l = c.loop-item in
    let start = c.begin_array.new.self.tokens in
    let vs = c.in-List.items in
    let inner = c.in_ok-inner-in-List.inner in
    let xs = c.deref-item-items.result.now in
    let step : c.args.depth ≡ inner + 1 = search rules in
    let all : take l.item-index xs ≡ vs.items = take_all l.item-index xs (omega arith) ∙ c.deref-item-items.ensures.value in
    let written = l.invariant.0 ∙ ap (λ ys. start ++ flat_map value_tokens ys) all in
    let nested : items_depth (items_of (map json_of vs.items)) ≤ inner = rw (← all) l.invariant.2 in
    record {
      tokens = rw c.in-List.is (list_tokens _ start _ _ vs (search rules) written (search rules));
      before = search rules;
      nests = rw (c.in-List.is, json_of-List vs) (omega (arith, nested, step));
      refused = search rules;
    }

pub loop-name-preserved : goal.loop-name-preserved
loop-name-preserved t c =
    let l = c.loop-name in
    let name = c.in-Some.name.now in
    let v = c.in-Some.member.now in
    let start = c.begin_object.new.self.tokens in
    let inner = c.in_ok-inner-in-Object.inner in
    let named : c.key.new.self.tokens ≡ l.writer.tokens ++ token.key (string_bytes name) ∷ [] = search rules in
    let kept : c.key.new.self.before ≡ l.writer.before = search rules in
    let more = map-append deref_pair l.yielded ((c.in-Some.name, c.in-Some.member) ∷ []) in
    let done = c.in_ok-write-in-Object.ensures in
    rw more (
      tt,
      tt,
      rw (done.tokens, named, append_assoc, l.invariant.2) (flat_map_more member_tokens start (shown l.yielded) (name, v)),
      done.before ∙ kept ∙ l.invariant.3,
      members_nest inner (shown l.yielded) (name, v) l.invariant.4 done.nests,
      rw (append_assoc, ← c.in-Some.ensures.steps) l.invariant.5,
    )

pub returns-in_ok-end_object-in-Object : goal.returns-in_ok-end_object-in-Object
returns-in_ok-end_object-in-Object t c =
    let l = c.loop-name in
    let start = c.begin_object.new.self.tokens in
    let m = c.in-Object.members in
    let inner = c.in_ok-inner-in-Object.inner in
    let step : c.args.depth ≡ inner + 1 = search rules in
    let given : pairs_left c.into_iter-name-iterator.result ≡ m.pairs = search rules in
    let all : shown l.yielded ≡ m.pairs =
    sym (append-nil (shown l.yielded)) ∙ ap (λ ms. shown l.yielded ++ ms) (sym c.in-None.ensures.steps.0) ∙ l.invariant.5 ∙ given in
    let written = l.invariant.2 ∙ ap (λ ms. start ++ flat_map member_tokens ms) all in
    let nested : members_depth (members_of (seen m.pairs)) ≤ inner = rw (← all) l.invariant.4 in
    record {
      tokens = rw c.in-Object.is (object_tokens _ start _ _ m (search rules) written (search rules));
      before = search rules;
      nests = rw (c.in-Object.is, json_of-Object m) (omega (arith, nested, step));
      refused = search rules;
    }

pub returns-in_err-write-in-List-clause-refused : goal.returns-in_err-write-in-List-clause-refused
returns-in_err-write-in-List-clause-refused t c numbers deep =
    let xs = c.deref-item-items.result.now in
    let same = sym c.deref-item-items.ensures.value in
    let inner = c.in_ok-inner-in-List.inner in
    let step : c.args.depth ≡ inner + 1 = search rules in
    let whole = writable_as c.args.self.now _ c.args.depth (ap json_of c.in-List.is ∙ json_of-List c.in-List.items) numbers deep in
    let numbered = subst (λ ys. ItemsHaveNumbers (items_of (map json_of ys))) same whole.0 in
    let room = subst (λ ys. items_depth (items_of (map json_of ys)) ≤ inner) same (omega (arith, whole.1, step)) in
    let its = item_writable xs c.loop-item.item-index c.item-item.result inner (omega arith) c.item-item.is numbered room in
    let failed = c.in_err-write-in-List.ensures.refused its.0 its.1 in
    search rules

pub returns-in_err-write-in-Object-clause-refused : goal.returns-in_err-write-in-Object-clause-refused
returns-in_err-write-in-Object-clause-refused t c numbers deep =
    let l = c.loop-name in
    let m = c.in-Object.members in
    let name = c.in-Some.name.now in
    let v = c.in-Some.member.now in
    let left = pairs_left c.next.new.self in
    let inner = c.in_ok-inner-in-Object.inner in
    let step : c.args.depth ≡ inner + 1 = search rules in
    let given : pairs_left c.into_iter-name-iterator.result ≡ m.pairs = search rules in
    let all : shown l.yielded ++ (name, v) ∷ left ≡ m.pairs =
    ap (λ ms. shown l.yielded ++ ms) (sym c.in-Some.ensures.steps) ∙ l.invariant.5 ∙ given in
    let whole = writable_as c.args.self.now _ c.args.depth (ap json_of c.in-Object.is ∙ json_of-Object m) numbers deep in
    let numbered = subst (λ ms. MembersHaveNumbers (members_of (seen ms))) (sym all) whole.0 in
    let room = subst (λ ms. members_depth (members_of (seen ms)) ≤ inner) (sym all) (omega (arith, whole.1, step)) in
    let its = member_writable (shown l.yielded) left (name, v) inner numbered room in
    let failed = c.in_err-write-in-Object.ensures.refused its.0 its.1 in
    search rules
