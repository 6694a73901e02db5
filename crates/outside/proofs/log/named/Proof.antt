-- `named` hands a value of no bytes on, and what its ghost field shows is what the caller names.
use Rattle.std.proofs.Common.{List, [], ◌∷◌, ◌++◌, refl, ap, ◌∙◌}
use Rattle.std.proofs.raw_atomic.Walks.{proved}
use mir.Syntax.{a_type, named}
use mir.Val.{Val, vptr, vstruct, vcons, vnil, of_list}
use mir.MapTy.{inst_fn}
use base.Fml.{Fml}
use contract.Running.{tables}
use types.Kit.{‵, raw, ◌⊛◌, ◌$◌, ◌∵◌, !, qed, move, keep, split, join, fjoin, use0, suffices, done}
use types.Run.{of_opd, returns, enter}
use types.ByLocal.{alloc_all, pass_all, free_all, look_at, get, sets}
use denote.RattleType.{RattleType, owns}
use denote.Exit.{yes, no}
use denote.Builtin.{RefOf}
use denote.Ref.{shr_vals, shr_Tells}
use denote.Param.{param, layouts}
use denote.Shadow.{makes_shadow}
use denote.Signature.{types_at, plain}
use denote.Steps.{nothing}
use denote.Triple.Entry.{alive}
use denote.Triple.Walked.{Stays, says, stay_dropped, walk_of, Goes-dropped, ends_at}
use Rattle.std.specs.contracts.snapshot.Snapshot as Snapshot
use Rattle.outside.specs.contracts.log.named.{ended, clauses}
use Rattle.outside.specs.contracts.log.named.Key.{name as #self}
use Rattle.outside.proofs.log.named.Statement.{statement}
use Rattle.outside.proofs.log.named.Code as code

abbrev token : Val
token = vstruct (vcons (vstruct vnil) vnil)

pub named_spec : {M : Type 1} → statement M
named_spec 𝓤 𝓛 𝓜 𝓡 wired T X lawsT lawsX =
    let 𝓣 = tables 𝓤 𝓛.H 𝓜 𝓡 𝓡.env in let R : RattleType = Snapshot.the_row (param 0 T) in let F : RattleType = param 1 X in let En = ended T X in
    let inst = layouts (a_type ∷ a_type ∷ []) (T, (X, tt)) in let fn = inst_fn inst code.function in let c = clauses T X 𝓛 𝓜.mem 𝓡.returns in
    let given = RefOf (0 ∷ []) tt (plain (λ _. F)) (λ _. tt) in
    let hs : Stays En.signature.params En.kept = (stay_dropped (plain (λ _. R)) no, (stay_dropped given yes, tt)) in
    proved 𝓛 En hs c 𝓜 𝓡 (Goes-dropped 𝓛 3 (plain (λ _. R)) no (λ κs x f. refl), (Goes-dropped 𝓛 3 given yes (λ κs x f. refl), tt)) (#self inst) fn (code.unfolded 𝓤 𝓛.H 𝓜 𝓡 wired (T, (X, tt)))
    (λ κs. ((λ x. token ∷ []), (shr_vals, tt))) (λ κs. ((λ x vs is. is.0.1.0 ∙ ap (λ (ws : List Val). vstruct (of_list (ws ++ [])) ∷ []) is.0.1.1.0.1.0), (shr_Tells (named 0) κs.0 F, tt))) (λ κs qs bounds a after are.
    let p : Val = vptr a.1.0.ref_ptr.0 a.1.0.ref_ptr.1 in
    let r : R.Denot = record { marker = record {}; value = after } in let O : Fml = R.own_val r (token ∷ []) in
    let y : (walk_of 𝓛 En hs c).Ghost = ((κs, qs, bounds, a, (token ∷ [], (p ∷ [], tt))), after) in
    qed 𝓛 ((raw (alive 𝓛 En.signature κs qs) ⊛ ‵ (owns (types_at En.signature.params κs) a y.0.4)) ∷ raw ((c κs a).requires after) ∷ []) ∵ split ! $ keep ! (0 ∷ []) $
    enter ! 𝓣.C 𝓣.Λ fn (token ∷ p ∷ []) _ $ alloc_all ! (λ l. pass_all ! refl ((tt, (tt, tt)), ((tt, tt), tt)) $
    sets ! (of_opd ! (get ! refl)) refl (tt, (tt, tt)) $
    returns ! (look_at ! 0 refl) $ free_all ! refl $
    use0 𝓛 (‵ O) (makes_shadow 𝓛 O ((λ vss. (tt, ((λ uss. (tt, tt)), tt))), tt) (((vstruct vnil ∷ [], tt), (refl, ((tt, (refl, tt)), tt))), tt)) $
    suffices ! _ (ends_at 𝓛 En hs c y token r (tt, (tt, tt)) (tt, (tt, tt))) $ says ! refl $
    nothing ! $ nothing ! $ fjoin ! $ nothing ! $ fjoin ! $ join ! $ move ! (1 ∷ 0 ∷ []) $ join ! $ done !))
