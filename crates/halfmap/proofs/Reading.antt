-- Reading a line part by part.
use Rattle.halfmap.proofs.Common.{◌≡◌, ◌≢◌, ℕ, zero, suc, ◌-◌, ◌≤◌, Bool, true, List, [], ◌∷◌, ◌++◌, All, Result, Ok, Err}
use Rattle.halfmap.proofs.Common.{IfSome, length, take, refl, sym, ap, ◌∙◌, arith, append-nil, length-take-le, take-nil, Option}
use Rattle.halfmap.proofs.Common.{IsErr, OnErr, DropsConsumable, Keeps, Consumes, Consumes-nil, Consumes-kept, Consumes-trans}
use Rattle.halfmap.proofs.Common.{Consumes_shown, Consumes_through, zero_unless_positive, common_steps, KEPT_BYTES, kept}
use Rattle.halfmap.proofs.Common.{with_more, IsPartOfLine, ReadsPart, ReadsLine}
use Rattle.std.specs.Io.{StartsWith}
use Rattle.std.proofs.Transfers.{StopsAt-append}
use Rattle.std.proofs.lemmas.List.Elements.{All-nil, All-append}

-- nothing was taken, and the line goes on
pub reads_nothing : {E : Type 0} (old new : Option (List ℕ)) (r : Result Bool E) → Keeps old new → r ≢ Ok true → ReadsPart old new [] r
reads_nothing old new r keeps more = record {
  consumed = Consumes-kept old old new [] (Consumes-nil old) keeps;
  stops = All-nil (λ b. b ≢ 10);
  goes_on = λ _. All-nil (λ b. b ≢ 10);
  ends = λ done. absurd (more done);
  at_end = λ done. absurd (more done);
}

-- nothing was kept either
pub keeps_nothing : (n : ℕ) (old new : List ℕ) → new ≡ old → new ≡ old ++ take (n - length old) []
keeps_nothing n old new e = e ∙ sym (ap (λ l. old ++ l) (take-nil (n - length old)) ∙ append-nil old)

pub no_flag : {E : Type 0} (r : Result Bool E) → IsErr r → r ≢ Ok true
no_flag (Ok b) h e = cc
no_flag (Err x) h e = cc

-- the first n bytes that were shown were taken
pub reads_shown : {E : Type 0} (old rested new : Option (List ℕ)) (buffered : Option ℕ) (shown : List ℕ) (n : ℕ) (ended : Bool)
    (r : Result Bool E) → r ≡ Ok ended
    → IsPartOfLine shown n ended → IfSome old (λ xs. StartsWith xs shown) → IfSome old (λ xs. length shown ≡ 0 → xs ≡ []) → Keeps old rested
    → IfSome old (λ _. IfSome buffered (λ k. length shown ≤ k)) → DropsConsumable rested new buffered n
    → ReadsPart old new (take n shown) r
reads_shown old rested new buffered shown n ended r e is front end keeps fits drops =
    let moved = Consumes_shown old rested new buffered shown n is.within front end keeps fits drops in
    record {
      consumed = moved.0;
      stops = is.stops;
      goes_on = λ more. is.goes_on (grind (arith, common_steps));
      ends = λ done. is.ends (cc);
      at_end = λ _ none. moved.1 (zero_unless_positive (length shown) n is.some (sym (length-take-le n shown is.within) ∙ none));
    }

-- what is kept of two parts, one after the other
take_more : (n : ℕ) (xs ys : List ℕ) → take n xs ++ take (n - length (take n xs)) ys ≡ take n (xs ++ ys)
take_more zero xs ys = refl
take_more (suc n) [] ys = grind (arith, common_steps)
take_more (suc n) (x ∷ xs) ys = grind (arith, common_steps, take_more n xs ys)

pub kept_more : (taken part old new : List ℕ) → old ≡ kept taken → new ≡ with_more old part → new ≡ kept (taken ++ part)
kept_more taken part old new e f = f ∙ ap (λ l. l ++ take (KEPT_BYTES - length l) part) e ∙ take_more KEPT_BYTES taken part

-- what is known of a line while it is read: what was taken has no LF yet
pub record IsOpenLine (old new : Option (List ℕ)) (line : List ℕ) : Type 0 where
  pub taken : List ℕ
  pub consumed : Consumes old new taken
  pub goes_on : All (λ b. b ≢ 10) taken
  pub line_is : line ≡ kept taken

pub opens : (known : Option (List ℕ)) (line : List ℕ) → line ≡ [] → IsOpenLine known known line
opens known line e = record { taken = []; consumed = Consumes-nil known; goes_on = All-nil (λ b. b ≢ 10); line_is = e }

-- a part more was taken of it
pub part_taken : {E : Type 0} (old mid new : Option (List ℕ)) (line more part : List ℕ) (r : Result Bool E)
    → IsOpenLine old mid line → more ≡ with_more line part → ReadsPart mid new part r
    → (taken : List ℕ) × (more ≡ kept taken) × Consumes old new taken
part_taken old mid new line more part r o e p =
    (o.taken ++ part, kept_more o.taken part line more o.line_is e, Consumes-trans old mid new o.taken part o.consumed p.consumed)

pub stays_open : {E : Type 0} (old mid new : Option (List ℕ)) (line more part : List ℕ) (r : Result Bool E) → r ≢ Ok true
    → IsOpenLine old mid line → more ≡ with_more line part → ReadsPart mid new part r
    → IsOpenLine old new more
stays_open old mid new line more part r not_done o e p = record {
  taken = o.taken ++ part;
  consumed = Consumes-trans old mid new o.taken part o.consumed p.consumed;
  goes_on = All-append (λ b. b ≢ 10) o.taken part o.goes_on (p.goes_on not_done);
  line_is = kept_more o.taken part line more o.line_is e;
}

-- the part was the last
pub line_read : {E : Type 0} (old mid new : Option (List ℕ)) (line more part : List ℕ) (r : Result Bool E) → r ≡ Ok true
    → IsOpenLine old mid line → more ≡ with_more line part → ReadsPart mid new part r
    → (whole : List ℕ) × (more ≡ kept whole) × ReadsLine old new whole
line_read old mid new line more part r done o e p =
    let through = Consumes_through 10 old mid new o.taken part o.consumed o.goes_on p.consumed p.stops (p.ends done) (p.at_end done) in (
      o.taken ++ part,
      kept_more o.taken part line more o.line_is e,
      record { stops = StopsAt-append o.taken part 10 o.goes_on p.stops; taken = through.0; rest = through.1 },
    )

-- a fact that holds anyway also holds on an error
pub on_err : {T E X : Type 0} (r : Result T E) → X → OnErr r X
on_err (Ok x) h = tt
on_err (Err e) h = h
