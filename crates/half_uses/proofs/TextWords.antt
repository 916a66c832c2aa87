-- The words that a text gave so far.
use Rattle.std.proofs.Common.{ℕ, ◌+◌, ◌<◌, ◌≤◌, List, [], ◌∷◌, ◌++◌, length, Some, Bor, ap, ◌∙◌, arith, length-append}
use Rattle.std.proofs.lemmas.Cmp.{nat_list_eq_equiv}
use Rattle.std.specs.Cmp.{IsEquivalence}
use Rattle.std.specs.Iterator.{Yields}
use Rattle.std.specs.Str.Iter.{split_whitespace_rest, split_whitespace_steps}
use Rattle.std.specs.declared.str.SplitWhitespace.{SplitWhitespace}
use Rattle.half_uses.specs.Words.{same_word}

pub same_word_laws : IsEquivalence same_word
same_word_laws = record {
  refl = λ x. nat_list_eq_equiv.refl x.now;
  symm = λ x y. nat_list_eq_equiv.symm x.now y.now;
  congr = λ x y z. nat_list_eq_equiv.congr x.now y.now z.now;
}

-- a word takes a byte of the text at least
pub nonempty_before_word : (s t : SplitWhitespace) (word : Bor (List ℕ)) → split_whitespace_steps s (Some word) t
    → length (split_whitespace_rest t) < length (split_whitespace_rest s)
nonempty_before_word s t word step =
    omega (
      arith,
      step.2,
      ap length step.1 ∙ length-append step.0 (word.now ++ split_whitespace_rest t),
      length-append word.now (split_whitespace_rest t),
    )

-- there are no more words than bytes
pub words_between : (s t : SplitWhitespace) (words : List (Bor (List ℕ))) → Yields split_whitespace_steps s words t
    → length words + length (split_whitespace_rest t) ≤ length (split_whitespace_rest s)
words_between s t [] same = omega (arith, ap (λ u. length (split_whitespace_rest u)) same)
words_between s t (word ∷ words) gave = omega (arith, nonempty_before_word s gave.0 word gave.1, words_between gave.0 t words gave.2)
