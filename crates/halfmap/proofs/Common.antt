-- The names that most proofs cite, passed on from one place. Declares nothing.
pub use Rattle.halfbrown.proofs.Common.{◌≡◌, ℕ, List, [], Some, None, refl, ap, arith, common_steps, Option, ◌+◌, ◌≤◌, ◌∷◌}
pub use Rattle.halfbrown.proofs.Common.{◌++◌, length, subst, inl, inr, State, zero, suc, ◌-◌, Bool, true, IfSome, take, sym}
pub use Rattle.halfbrown.proofs.Common.{◌∙◌, ◌<◌, false, rules}
pub use Rattle.std.proofs.Common.{append-nil, length-append, length-take-le, take_all, ◌≢◌, All, Result, Ok, Err, append_assoc}
pub use Rattle.std.proofs.Common.{length-take, drop, zero-add, IfNone}
pub use Rattle.std.specs.Io.Buffered.{reader_remaining, reader_inner, reader_buffer, reader_capacity, writer_contents}
pub use Rattle.std.specs.Io.Buffered.{writer_inner, writer_buffer}
pub use Rattle.std.specs.Io.KnownBytes.{append_known, Keeps, Consumes, Appends}
pub use Rattle.std.proofs.KnownBytes.{prepend_known-nil, Consumes-nil, Consumes-kept, Consumes-trans, Appends-nil, Appends-kept}
pub use Rattle.std.proofs.KnownBytes.{Appends-trans}
pub use Rattle.std.specs.Prelude.{codes, IsErr, OnErr, IsTrue, ◌↔◌, position, nat_eq}
pub use Rattle.halfmap.specs.Answer.{AnswersLine}
pub use Rattle.halfmap.specs.Reading.{kept, with_more, IsPartOfLine, ReadsPart, ReadsLine}
pub use Rattle.halfmap.specs.Request.{WritesAfter, WritesTwo, IsTextOf, Writes, is_space}
pub use Rattle.halfmap.specs.declared.answer.Answer.{Answer}
pub use Rattle.halfmap.specs.declared.request.Request.{Request}
pub use Rattle.halfmap.specs.declared.request.Request.TheVariants.{Insert, Get, Remove, Form}
pub use Rattle.std.specs.Str.Parse.{AllDigits, IsNumeral}
pub use Rattle.std.proofs.lemmas.Str.Parse.{digit_from_value}
pub use Rattle.std.proofs.Math.Seq.{take-nil, drop-append_seam, take-append_seam, drop-append-add}
pub use Rattle.std.specs.Io.BufRead.{DropsConsumable, take_through, drop_through, FillKeeps}
pub use Rattle.std.proofs.BufReadLemmas.{Consumes_shown, Consumes_through, zero_unless_positive, take_through-nil}
pub use Rattle.halfmap.specs.declared.lines.TheConstants.{KEPT_BYTES}
pub use Rattle.std.proofs.lemmas.Grind.{flat_map-append}
pub use Rattle.std.proofs.lemmas.Bool.Decides.{Decides-eqb, nat_tests}
pub use Rattle.std.proofs.lemmas.Slice.Eq.{strip_prefix_is, strip_suffix_is}
