-- A text of decimal digits is UTF-8.
use Rattle.halfmap.proofs.Common.{ℕ, List, [], ◌∷◌, arith, AllDigits, IsNumeral, digit_from_value}
use Rattle.std.specs.Str.{IsAscii, IsUtf8}
use Rattle.std.proofs.lemmas.Str.{IsUtf8-from_ascii}
use Rattle.std.proofs.lemmas.Str.Ascii.{IsAscii-nil, IsAscii-cons}

pub digits_are_ascii : (ds : List ℕ) → AllDigits 10 ds → IsAscii ds
digits_are_ascii [] h = IsAscii-nil
digits_are_ascii (c ∷ cs) h = IsAscii-cons c cs (omega (arith, digit_from_value c h.0)) (digits_are_ascii cs h.1)

pub numeral_is_utf8 : (ds : List ℕ) → IsNumeral 10 ds → IsUtf8 ds
numeral_is_utf8 ds h = IsUtf8-from_ascii ds (digits_are_ascii ds h.1)
