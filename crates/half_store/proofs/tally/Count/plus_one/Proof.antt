-- `plus_one` makes the struct without bytes, and picks one more than the number of the other.
use Rattle.half_store.proofs.Common.{◌+◌, refl, [], ◌∷◌}
use Rattle.std.proofs.raw_atomic.Walks.{proved}
use mir.Syntax.{named}
use mir.Val.{vstruct, vnil, vptr}
use base.Fml.{ftrue}
use types.Kit.{‵, raw, ◌⊛◌, ◌$◌, ◌∵◌, !, qed, move, keep, split, suffices, done}
use types.Run.{enter, returns, no_more}
use types.Part.{agg}
use types.ByLocal.{alloc_all, pass_all, free_all, look_at, sets}
use denote.Exit.{yes}
use denote.RattleType.{owns}
use denote.Ref.{shr_vals, shr_Tells}
use denote.Shadow.{pure_i}
use denote.Signature.{plain, types_at}
use denote.Triple.Entry.{alive}
use denote.Triple.Walked.{Stays, stay_none_ref, Goes-none_ref, says, ends_at}
use Rattle.half_store.specs.contracts.tally.Count as count
use Rattle.half_store.specs.contracts.tally.Count.plus_one as f
use Rattle.half_store.proofs.tally.Count.plus_one.Statement.{statement}
use Rattle.half_store.proofs.tally.Count.plus_one.Code as code

abbrev stayed : Stays f.ended.signature.params f.ended.kept
stayed = (stay_none_ref (0 ∷ []) tt (plain (λ _. count.the_row)) yes, tt)

pub plus_one_spec : {M : Type 1} → statement M
plus_one_spec 𝓤 𝓛 𝓜 𝓡 wired =
    let c = f.clauses 𝓛 𝓜.mem 𝓡.returns in
    proved 𝓛 f.ended stayed c 𝓜 𝓡 (Goes-none_ref 𝓛 1 (0 ∷ []) tt (plain (λ _. count.the_row)) yes, tt)
    f.Key.name code.function (code.unfolded 𝓤 𝓛.H 𝓜 𝓡 wired)
    (λ κs. (shr_vals, tt)) (λ κs. (shr_Tells (named 0) κs.0 count.the_row, tt)) (λ κs qs bounds a _ are.
    let here = vptr a.0.ref_ptr.0 a.0.ref_ptr.1 in
    let made : (count.the_row).Denot = record { number = a.0.now.number + 1 } in
    qed 𝓛 ((raw (alive 𝓛 f.signature κs qs) ⊛ ‵ (owns (types_at f.signature.params κs) a (here ∷ [], tt))) ∷ ‵ ftrue ∷ []) ∵
    keep ! (0 ∷ []) $ split ! $
    enter ! _ _ _ _ _ $ alloc_all ! (λ l. pass_all ! refl ((tt, tt), tt) $
    sets ! (agg ! (no_more !)) refl (tt, tt) $
    returns ! (look_at ! 0 refl) $ free_all ! refl $
    suffices ! _ (ends_at 𝓛 f.ended stayed c ((κs, qs, bounds, a, (here ∷ [], tt)), tt) (vstruct vnil) made (tt, tt) (tt, tt)) $ says ! refl
    $
    pure_i ! (count.the_row.own_val made (vstruct vnil ∷ [])) ((λ vss. (tt, tt)), tt) ((tt, (refl, tt)), tt) $
    move ! (1 ∷ 2 ∷ 0 ∷ []) $ done !))
