-- `of_parts` moves two fields, and what they own goes with them.
use Rattle.std.specs.Prelude.{Some}
use mathlib.Core.Path.{refl, sym, subst}
use mathlib.Core.List.{List, [], ◌∷◌, ◌++◌}
use seplogic.Ra.Ura.{Ura}
use mir.Syntax.{Fn}
use mir.MapTy.{inst_fn}
use mir.Val.{Val}
use base.Logic.{SProp, ent, id⊢}
use base.Fml.{ftrue, fsep, flft}
use contract.BorrowLft.{◌⊑◌}
use prog.Memory.{Memory}
use prog.Routine.{Routine}
use prog.Wp.{WpFn, Tables}
use types.Logic.{Logic}
use contract.Monad.{Fun, fact}
use contract.Running.{tables, tables_of}
use sound.WpLaws.{WpFn-mono}
use types.Kit.{Item, ‵, raw, ◌⊛◌, ◌$◌, ◌∵◌, !, qed, by, move, drop, use1, join, split, fsplit, fjoin, suffices, done}
use types.Part.{whole, sub, agg}
use types.Run.{stop, fld, no_more, and_then, of_opd, returns, enter}
use types.ByLocal.{alloc_all, pass_all, free_all, look_at, get, get_in, sets}
use denote.RattleType.{RattleType}
use denote.Exit.{no}
use denote.Param.Laws.{Laws}
use denote.Signature.{type_at}
use denote.Steps.{nothing}
use denote.Triple.Clauses.{Ended, Clauses}
use denote.Triple.Spec.{triple_of}
use denote.Triple.Table.{entered}
use denote.Triple.Walked.{says, Stays, stay_dropped, walk_of, ends_at, Goes-dropped, walk_Meets}
use Rattle.std_alloc.proofs.BoxSteps.Form.{Bx, D, B, word, box_typed}
use Rattle.std_alloc.proofs.BoxSteps.Steps.{box_out, box_in}
use Rattle.node_for_c.proofs.AsBox.{boxed, at, FromParts as From}
use Rattle.node_for_c.specs.contracts.handle.Handle.of_parts as F
use Rattle.node_for_c.specs.contracts.handle.Handle.of_parts.Key.{name as #self}
use Rattle.node_for_c.proofs.handle.Handle.of_parts.Statement as stated
use Rattle.node_for_c.proofs.handle.Handle.of_parts.Code as code

module _ (T : RattleType) (L : Laws T) where
  abbrev E : Bx
  E = boxed T L

  abbrev fn' : Fn
  fn' = inst_fn (at T) code.function

  abbrev ended : Ended
  ended = F.ended T

  abbrev stayed : Stays ended.signature.params ended.kept
  stayed = (stay_dropped (From T) no, tt)

  module _ {M : Type 1} {𝓤 : Ura M} (𝓛 : Logic 𝓤) (at_mem : Memory → SProp 𝓤) (run : Routine → Fun 𝓤) (𝓣 : Tables 𝓤 𝓛.H)
    where
      open 𝓛 use {H}

      abbrev held : Clauses 𝓤 ended
      held = F.clauses T 𝓛 at_mem run

      walk : (z : (walk_of 𝓛 ended stayed held).Ghost)
          → ent 𝓤 ((walk_of 𝓛 ended stayed held).pre z)
          (WpFn 𝓤 H 𝓣.C 𝓣.Λ fn' (z.0.4.0 ++ []) ((walk_of 𝓛 ended stayed held).post z))
      walk z =
          let κs = z.0.0 in let qs = z.0.1 in
          let Post = (walk_of 𝓛 ended stayed held).post z in
          let v : D E = record { ptr = z.0.3.0.ptr; alloc = z.0.3.0.alloc; value = z.0.3.0.value } in
          let To = type_at ended.signature.result κs in
          let made : To.Denot = record { ptr = v.ptr; alloc = v.alloc; kept = Some v.value } in
          let ts : Item 𝓤 = ‵ (flft κs.0 qs.0) ⊛ ‵ ftrue in
          qed 𝓛 ((ts ⊛ ‵ (fsep ((B E).own_val v z.0.4.0) ftrue)) ∷ (raw (fact 𝓤 (κs.0 ⊑ T.lives)) ⊛ ‵ ftrue) ∷ []) ∵
          split ! $ move ! (1 ∷ []) $ fsplit ! $
          box_out E ! v z.0.4.0 (λ b o hv e ws fa. box_in E ! v b o v.value e refl $ use1 𝓛
          (‵ (To.own_val made (word E hv b o ∷ []))) (id⊢ 𝓤 _) $ move ! (1 ∷ []) $ drop ! $ move ! (2 ∷ []) $ drop ! $
          let w = word E hv b o in
          let Γ : List (Item 𝓤) = ‵ (To.own_val made (w ∷ [])) ∷ ts ∷ [] in
          by ! (subst (λ (us : List Val). ent 𝓤 (types.Kit.⋆ 𝓛 Γ) (WpFn 𝓤 H 𝓣.C 𝓣.Λ fn' (us ++ []) Post))
          (sym ws)
          (qed 𝓛 Γ ∵ enter ! 𝓣.C 𝓣.Λ fn' (w ∷ []) _ $ alloc_all !
          (λ ls. pass_all ! refl (box_typed E hv b o fa, tt) $
          sets ! (of_opd ! (get_in ! (fld ! refl (stop !)) (sub ! 0 refl (whole !)))) refl (tt, tt) $
          sets ! (of_opd ! (get_in ! (fld ! refl (stop !)) (sub ! 1 refl (whole !)))) refl fa $
          sets ! (agg ! (and_then ! (get ! refl) (and_then ! (get ! refl) (no_more !)))) refl (box_typed E hv b o fa) $
          returns ! (look_at ! 0 refl) $ free_all ! refl $
          suffices ! _ (ends_at 𝓛 ended stayed held z w made (tt, tt) (tt, tt)) $ says ! refl $
          nothing ! $ nothing ! $ fjoin ! $ join ! $ move ! (1 ∷ 0 ∷ []) $ join ! $ done !))))

pub of_parts_spec : {M : Type 1} → stated.statement M
unfolding tables_of
of_parts_spec 𝓤 𝓛 𝓜 𝓡 wired T L =
    let 𝓣 : Tables 𝓤 𝓛.H = tables_of 𝓤 𝓛.H 𝓜 (tables 𝓤 𝓛.H 𝓜 𝓡 𝓡.env) in
    entered 𝓤 𝓛.H (triple_of 𝓛 (ended T L).signature (F.spec T 𝓛 𝓜.mem 𝓡.returns)) 𝓣.C 𝓣.Λ (#self (at T)) (fn' T L)
    (code.unfolded 𝓤 𝓛.H 𝓜 𝓡 wired (T, tt))
    (walk_Meets 𝓛 (ended T L) (stayed T L) (Goes-dropped 𝓛 1 (From T) no (λ κs x f. refl), tt)
    (held T L 𝓛 𝓜.mem 𝓡.returns 𝓣) (WpFn 𝓤 𝓛.H 𝓣.C 𝓣.Λ (fn' T L)) (WpFn-mono 𝓤 𝓛.H 𝓛.laws 𝓣 (fn' T L))
    (walk T L 𝓛 𝓜.mem 𝓡.returns 𝓣))
