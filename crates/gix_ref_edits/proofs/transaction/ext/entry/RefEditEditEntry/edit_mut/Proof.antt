-- `edit_mut` lends the edit itself, under its own name.
use Rattle.std.proofs.Common.{[], ◌∷◌, refl}
use Rattle.std.proofs.raw_atomic.Walks.{proved}
use base.Fml.{ftrue, flft}
use mir.Syntax.{named}
use mir.Val.{vptr}
use types.Kit.{‵, ◌⊛◌, ◌$◌, ◌∵◌, !, qed, move, keep, split, join, fjoin, by, suffices, frame}
use types.Run.{stop, addr, enter, returns}
use types.ByLocal.{alloc_all, pass_all, free_all, look_at, through, sets}
use denote.Exit.{no}
use denote.Builtin.{RefMutOf}
use denote.Ref.{MutRef, mut_vals, mut_Tells}
use denote.Signature.{plain}
use denote.Steps.{nothing}
use denote.Triple.Walked.{says, Stays, stay_dropped, ends_at, Goes-spent_ref}
use Rattle.gix_ref_edits.proofs.LendingItself.{follows_itself}
use Rattle.gix_ref_edits.specs.contracts.transaction.RefEdit.{the_row}
use Rattle.gix_ref_edits.specs.contracts.transaction.ext.entry.RefEditEditEntry.edit_mut as f
use Rattle.gix_ref_edits.proofs.transaction.ext.entry.RefEditEditEntry.edit_mut.Statement.{statement}
use Rattle.gix_ref_edits.proofs.transaction.ext.entry.RefEditEditEntry.edit_mut.Code as code

abbrev stayed : Stays f.ended.signature.params f.ended.kept
stayed = (stay_dropped (RefMutOf (0 ∷ []) tt (plain (λ _. the_row)) (λ _. tt)) no, tt)

pub edit_mut_spec : {M : Type 1} → statement M
edit_mut_spec 𝓤 𝓛 𝓜 𝓡 wired =
    let c = f.clauses 𝓛 𝓜.mem 𝓡.returns in
    proved 𝓛 f.ended stayed c 𝓜 𝓡 (Goes-spent_ref 𝓛 1 (0 ∷ []) tt (plain (λ _. the_row)), tt)
    f.Key.name code.function (code.unfolded 𝓤 𝓛.H 𝓜 𝓡 wired)
    (λ κs. (mut_vals, tt)) (λ κs. (mut_Tells (named 0) κs.0 the_row, tt)) (λ κs qs bounds a _ are.
    let κ = κs.0 in let q = qs.0 in let r = a.0 in let b = r.ref_ptr.0 in let o = r.ref_ptr.1 in let vs = mut_vals r in
    let Ref = (MutRef (named 0) κ the_row).own_val r vs in
    qed 𝓛 (((‵ (flft κ q) ⊛ ‵ ftrue) ⊛ ‵ Ref ⊛ ‵ ftrue) ∷ ‵ ftrue ∷ []) ∵
    split ! $ split ! $ move ! (2 ∷ []) $ split ! $ keep ! (0 ∷ 2 ∷ []) $
    enter ! _ _ _ _ _ $ alloc_all ! (λ l. pass_all ! refl ((tt, tt), tt) $
    sets ! (addr ! (through ! refl (stop !))) refl (tt, tt) $
    returns ! (look_at ! 0 refl) $ free_all ! refl $
    suffices ! _ (ends_at 𝓛 f.ended stayed c ((κs, qs, bounds, a, (vs, tt)), tt) (vptr b o) r (tt, tt) (tt, tt)) $
    nothing ! $ nothing ! $ fjoin ! $ nothing ! $ move ! (3 ∷ 0 ∷ []) $ join ! $ move ! (1 ∷ 2 ∷ []) $ join ! $ move ! (1 ∷ 0 ∷ []) $ join ! $
    frame ! $ says ! refl $ by ! (follows_itself 𝓛 the_row r.ghost_name)))
