-- `into_parts` moves two fields, and what they own goes with them.
use mathlib.Core.Path.{◌≡◌, refl, sym, subst}
use Rattle.std.specs.Prelude.{Option, Some, None, IsSome, Bool}
use lib.Dec.{T as IsTrue}
use mathlib.Core.List.{List, [], ◌∷◌, ◌++◌}
use seplogic.Ra.Ura.{Ura}
use mir.Syntax.{Fn}
use mir.MapTy.{inst_fn}
use mir.Val.{Val}
use base.Logic.{SProp, ent, id⊢}
use base.Fml.{ftrue, fsep, flft}
use contract.BorrowLft.{◌⊑◌}
use prog.Memory.{Memory}
use prog.Routine.{Routine}
use prog.Wp.{WpFn, Tables}
use types.Logic.{Logic}
use contract.Monad.{Fun, fact}
use contract.Running.{tables, tables_of}
use sound.WpLaws.{WpFn-mono}
use types.Kit.{Item, ‵, raw, ◌⊛◌, ◌$◌, ◌∵◌, !, qed, by, move, drop, use1, join, split, rewrite, fsplit, fjoin, suffices, done}
use types.Part.{whole, sub, agg}
use types.Run.{stop, fld, no_more, and_then, of_opd, returns, enter}
use types.ByLocal.{alloc_all, pass_all, free_all, look_at, get, get_in, sets}
use denote.RattleType.{RattleType}
use denote.Exit.{no}
use denote.Param.Laws.{Laws}
use denote.Signature.{type_at}
use denote.Steps.{nothing, heard}
use denote.Triple.Clauses.{Ended, Clauses}
use denote.Triple.Spec.{triple_of}
use denote.Triple.Table.{entered}
use denote.Triple.Walked.{says, Stays, stay_dropped, walk_of, ends_at, Goes-dropped, walk_Meets}
use Rattle.std_alloc.proofs.BoxSteps.Form.{Bx, X, D, B, word, box_typed}
use Rattle.std_alloc.proofs.BoxSteps.Steps.{box_out, box_in}
use Rattle.node_for_c.proofs.AsBox.{boxed, at, held_by, FromHandle as From}
use Rattle.node_for_c.specs.contracts.handle.Handle.into_parts as F
use Rattle.node_for_c.specs.contracts.handle.Handle.into_parts.Key.{name as #self}
use Rattle.node_for_c.proofs.handle.Handle.into_parts.Statement as stated
use Rattle.node_for_c.proofs.handle.Handle.into_parts.Code as code

module _ (T : RattleType) (L : Laws T) where
  abbrev E : Bx
  E = boxed T L

  abbrev fn' : Fn
  fn' = inst_fn (at T) code.function

  abbrev ended : Ended
  ended = F.ended T

  abbrev stayed : Stays ended.signature.params ended.kept
  stayed = (stay_dropped (From T) no, tt)

  module _ {M : Type 1} {𝓤 : Ura M} (𝓛 : Logic 𝓤) (at_mem : Memory → SProp 𝓤) (run : Routine → Fun 𝓤) (𝓣 : Tables 𝓤 𝓛.H)
    where
      open 𝓛 use {H}

      abbrev held : Clauses 𝓤 ended
      held = F.clauses T 𝓛 at_mem run

      split_at : (z : (walk_of 𝓛 ended stayed held).Ghost) (k : Option (X E)) → z.0.3.0.kept ≡ k
          → ent 𝓤 ((walk_of 𝓛 ended stayed held).pre z)
          (WpFn 𝓤 H 𝓣.C 𝓣.Λ fn' (z.0.4.0 ++ []) ((walk_of 𝓛 ended stayed held).post z))
      split_at z None at_none =
          let κs = z.0.0 in let qs = z.0.1 in
          qed 𝓛 (((‵ (flft κs.0 qs.0) ⊛ ‵ ftrue) ⊛ ‵ (fsep ((held_by T).own_val z.0.3.0 z.0.4.0) ftrue)) ∷
          (raw (fact 𝓤 (κs.0 ⊑ T.lives)) ⊛ raw (fact 𝓤 (IsSome z.0.3.0.kept))) ∷ []) ∵ drop ! $ split ! $ drop ! $
          heard ! (IsSome z.0.3.0.kept) (λ is. absurd (subst (λ (b : Bool). IsTrue b)
          (sym (subst (λ (k : Option (X E)). IsSome k) at_none is)) tt))
      split_at z (Some x) at_some =
          let κs = z.0.0 in let qs = z.0.1 in
          let Post = (walk_of 𝓛 ended stayed held).post z in
          let h = z.0.3.0 in
          let v : D E = record { ptr = h.ptr; alloc = h.alloc; value = x } in
          let To = type_at ended.signature.result κs in
          let made : To.Denot = record { ptr = v.ptr; alloc = v.alloc; value = v.value } in
          let ts : Item 𝓤 = ‵ (flft κs.0 qs.0) ⊛ ‵ ftrue in
          qed 𝓛 ((ts ⊛ ‵ (fsep ((held_by T).own_val h z.0.4.0) ftrue)) ∷
          (raw (fact 𝓤 (κs.0 ⊑ T.lives)) ⊛ raw (fact 𝓤 (IsSome h.kept))) ∷ []) ∵ move ! (1 ∷ []) $ split ! $ drop ! $
          heard ! (IsSome h.kept) (λ is. split ! $ move ! (1 ∷ []) $ fsplit ! $
          rewrite ! 0 (λ (k : Option (X E)). ‵ ((held_by T).own_val (record h { kept = k }) z.0.4.0)) at_some refl $
          use1 𝓛 (‵ ((B E).own_val v z.0.4.0)) (id⊢ 𝓤 _) $
          box_out E ! v z.0.4.0 (λ b o hv e ws fa. box_in E ! v b o v.value e refl $ use1 𝓛
          (‵ (To.own_val made (word E hv b o ∷ []))) (id⊢ 𝓤 _) $ move ! (1 ∷ []) $ drop ! $
          let w = word E hv b o in
          let Γ : List (Item 𝓤) = ‵ (To.own_val made (w ∷ [])) ∷ ts ∷ [] in
          by ! (subst (λ (us : List Val). ent 𝓤 (types.Kit.⋆ 𝓛 Γ) (WpFn 𝓤 H 𝓣.C 𝓣.Λ fn' (us ++ []) Post))
          (sym ws)
          (qed 𝓛 Γ ∵ enter ! 𝓣.C 𝓣.Λ fn' (w ∷ []) _ $ alloc_all !
          (λ ls. pass_all ! refl (box_typed E hv b o fa, tt) $
          sets ! (of_opd ! (get_in ! (fld ! refl (stop !)) (sub ! 0 refl (whole !)))) refl (tt, tt) $
          sets ! (of_opd ! (get_in ! (fld ! refl (stop !)) (sub ! 1 refl (whole !)))) refl fa $
          sets ! (agg ! (and_then ! (get ! refl) (and_then ! (get ! refl) (no_more !)))) refl (box_typed E hv b o fa) $
          returns ! (look_at ! 0 refl) $ free_all ! refl $
          suffices ! _ (ends_at 𝓛 ended stayed held z w made (tt, tt) (tt, tt)) $ says ! at_some $
          nothing ! $ nothing ! $ fjoin ! $ join ! $ move ! (1 ∷ 0 ∷ []) $ join ! $ done !)))))

      walk : (z : (walk_of 𝓛 ended stayed held).Ghost)
          → ent 𝓤 ((walk_of 𝓛 ended stayed held).pre z)
          (WpFn 𝓤 H 𝓣.C 𝓣.Λ fn' (z.0.4.0 ++ []) ((walk_of 𝓛 ended stayed held).post z))
      walk z = split_at z z.0.3.0.kept refl

pub into_parts_spec : {M : Type 1} → stated.statement M
unfolding tables_of
into_parts_spec 𝓤 𝓛 𝓜 𝓡 wired T L =
    let 𝓣 : Tables 𝓤 𝓛.H = tables_of 𝓤 𝓛.H 𝓜 (tables 𝓤 𝓛.H 𝓜 𝓡 𝓡.env) in
    entered 𝓤 𝓛.H (triple_of 𝓛 (ended T L).signature (F.spec T 𝓛 𝓜.mem 𝓡.returns)) 𝓣.C 𝓣.Λ (#self (at T)) (fn' T L)
    (code.unfolded 𝓤 𝓛.H 𝓜 𝓡 wired (T, tt))
    (walk_Meets 𝓛 (ended T L) (stayed T L) (Goes-dropped 𝓛 1 (From T) no (λ κs x f. refl), tt)
    (held T L 𝓛 𝓜.mem 𝓡.returns 𝓣) (WpFn 𝓤 𝓛.H 𝓣.C 𝓣.Λ (fn' T L)) (WpFn-mono 𝓤 𝓛.H 𝓛.laws 𝓣 (fn' T L))
    (walk T L 𝓛 𝓜.mem 𝓡.returns 𝓣))
