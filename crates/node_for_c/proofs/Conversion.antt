-- A struct of C and a handle have the same two fields and own the same. A function that moves the fields of one into the
-- other is proved here for both directions, any such struct and any type: it shows how its struct is read as a handle.
use mathlib.Core.Path.{◌≡◌, refl, sym, subst}
use mathlib.Core.List.{List, [], ◌∷◌, ◌++◌}
use lib.Dec.{T as IsTrue, lit<}
use seplogic.Ra.Ura.{Ura}
use mir.Syntax.{Fn, Sym, Ty, ty_ptr, ty_struct, tcons, tnil, local, value_local, place, field, copy, rv_opd, assign, aggregate, seq, return}
use mir.Val.{Val, vstruct, vcons, vnil, of_list, has_ty, WT}
use base.Logic.{ent, emp, id⊢}
use base.Fml.{Fml, ftrue, fsep}
use prog.Wp.{WpFn, Tables}
use types.Logic.{Logic, sem}
use contract.Monad.{fact}
use sound.WpLaws.{WpFn-mono}
use types.Kit.{Item, ‵, raw, ◌⊛◌, ◌$◌, ◌∵◌, !, qed, by, move, keep, drop, use1, join, split, fsplit, fjoin, fpick, fpack, feq_i, feq_l, suffices, done}
use types.Part.{whole, sub, agg}
use types.Run.{stop, fld, no_more, and_then, of_opd, returns, enter}
use types.ByLocal.{alloc_all, pass_all, free_all, look_at, get, get_in, sets}
use denote.RattleType.{RattleType, Valss}
use denote.Param.{layout}
use denote.Exit.{yes, Last, left}
use denote.RawPtr.{Ptr, RawPtr, block_ptr, null_ptr, ptr_val}
use denote.Signature.{plain}
use denote.Steps.{nothing}
use denote.Struct.Struct.{within}
use denote.Struct.Owning.{shape}
use denote.Triple.Clauses.{Ended, Clauses, closing}
use denote.Triple.Spec.{Meets}
use denote.Triple.Walked.{says, Stays, stay_dropped, walk_of, ends_at, Goes-dropped, walk_Meets}
use Rattle.core.proofs.alloc.Calls.{Fits, handle_tells}
use Rattle.std_alloc.proofs.ResultValues.{and_tt}
use Rattle.std_alloc.specs.contracts.boxed.Box as Box
use Rattle.std_heap.specs.contracts.Global as Heap
use Rattle.std_heap.specs.contracts.GlobalAllocator.TheImpl.{ghosts}
use Rattle.node_for_c.specs.contracts.handle.Handle as Handle
use Rattle.node_for_c.proofs.AsBox.{heap}

-- the type of a struct of both fields, and its machine value
abbrev both : Sym → Ty
both name = ty_struct name (tcons ty_ptr (tcons (layout Heap.the_row) tnil))

abbrev word : Ptr → Val → Val
word p hv = vstruct (vcons (ptr_val p) (vcons hv vnil))

ptr_typed : (p : Ptr) → IsTrue (has_ty ty_ptr (ptr_val p)) × WT (ptr_val p)
ptr_typed (block_ptr b o) = (tt, tt)
ptr_typed null_ptr = (tt, record { fits = lit< tt })

typed : (name : Sym) (p : Ptr) (hv : Val) → Fits heap hv → IsTrue (has_ty (both name) (word p hv)) × WT (word p hv)
typed name (block_ptr b o) hv fa = (and_tt (has_ty (layout Heap.the_row) hv) fa.0, (tt, (fa.1, tt)))
typed name null_ptr hv fa = (and_tt (has_ty (layout Heap.the_row) hv) fa.0, (record { fits = lit< tt }, (fa.1, tt)))

-- the code of such a function, by the names of both structs
abbrev pub moves : Sym → Sym → Fn
moves from to = record {
  lifetimes = 0;
  outlives = [];
  ty_params = [];
  givens = 0;
  params = 1;
  locals = local (both to) value_local ∷ local (both from) value_local ∷ local ty_ptr value_local ∷
      local (layout Heap.the_row) value_local ∷ local ty_ptr value_local ∷ [];
  body = seq (assign (place 2 []) (rv_opd (copy (place 1 (field 0 ∷ [])))))
      (seq (assign (place 3 []) (rv_opd (copy (place 1 (field 1 ∷ [])))))
      (seq (assign (place 4 []) (rv_opd (copy (place 2 []))))
      (seq (assign (place 0 []) (aggregate (copy (place 4 []) ∷ copy (place 3 []) ∷ []))) return)));
}

-- both own what a handle of T owns, and the one that is moved from has nothing left
pub record Conversion (T From To : RattleType) : Type 1 where
  pub as_handle : From.Denot → (Handle.the_row T).Denot
  pub into : From.Denot → To.Denot
  pub owned : (d : From.Denot) (vs : List Val) → From.own_val d vs ≡ (Handle.the_row T).own_val (as_handle d) vs
  pub still_owned : (d : From.Denot) (vs : List Val) → To.own_val (into d) vs ≡ (Handle.the_row T).own_val (as_handle d) vs
  pub last : (d : From.Denot) → Last (From.exit yes) d
  pub nothing_left : (d : From.Denot) (f : Last (From.exit yes) d) → left (From.exit yes) d f ≡ ftrue

module _ (T From To : RattleType) (K : Conversion T From To) (Says : From.Denot → To.Denot → Type 0)
    (said : (d : From.Denot) → Says d (K.into d)) where
  abbrev ended : Ended
  ended = record {
    signature = record { lifetimes = 0; outlives = []; params = plain (λ _. From) ∷ []; result = plain (λ _. To) };
    kept = (yes, tt);
  }

  abbrev stayed : Stays ended.signature.params ended.kept
  stayed = (stay_dropped (plain (λ _. From)) yes, tt)

  module _ {M : Type 1} {𝓤 : Ura M} (𝓛 : Logic 𝓤) (𝓣 : Tables 𝓤 𝓛.H) (from to : Sym) where
    open 𝓛 use {H}

    abbrev fn' : Fn
    fn' = moves from to

    abbrev held : Clauses 𝓤 ended
    held κs a = record { ghost = Unit {0}; requires = λ _. emp 𝓤; ensures = λ _ r _. fact 𝓤 (Says a.0 r) }

    walk : (z : (walk_of 𝓛 ended stayed held).Ghost)
        → ent 𝓤 ((walk_of 𝓛 ended stayed held).pre z)
        (WpFn 𝓤 H 𝓣.C 𝓣.Λ fn' (z.0.4.0 ++ []) ((walk_of 𝓛 ended stayed held).post z))
    walk z =
        let Post = (walk_of 𝓛 ended stayed held).post z in
        let d = z.0.3.0 in let vs = z.0.4.0 in let h = K.as_handle d in
        let Held : List Val → Item 𝓤 = λ us. ‵ ((Handle.the_row T).own_val h us) in
        let Made : List Val → Fml = λ us. To.own_val (K.into d) us in
        qed 𝓛 ((‵ ftrue ⊛ ‵ (fsep (From.own_val d vs) ftrue)) ∷ raw (emp 𝓤) ∷ []) ∵ split ! $ drop ! $ fsplit ! $ keep !
        (0 ∷ []) $
        use1 𝓛 (Held vs) (subst (λ (F : Fml). ent 𝓤 (sem 𝓛 (From.own_val d vs)) (sem 𝓛 F)) (K.owned d vs) (id⊢ 𝓤 _)) $
        fsplit ! $ fpick ! (λ vss. fsplit ! $ feq_l ! (λ ev. fsplit ! $ feq_l ! (λ ep. fsplit ! $
        handle_tells heap ! h.alloc vss.1.0 (λ hv ea fa. move ! (1 ∷ []) $ drop ! $
        let w : Val = word h.ptr hv in
        let ws : vs ≡ w ∷ [] =
        subst (λ (us : List Val). vs ≡ vstruct (of_list (ptr_val h.ptr ∷ (us ++ []))) ∷ []) ea
        (subst (λ (ps : List Val). vs ≡ vstruct (of_list (ps ++ (vss.1.0 ++ []))) ∷ []) ep ev) in
        -- what the handle owns again, from its last part to its first
        nothing ! $ move ! (1 ∷ 0 ∷ []) $ fjoin ! $
        feq_i ! (List Val) (ptr_val h.ptr ∷ []) (ptr_val h.ptr ∷ []) refl $ fjoin ! $
        feq_i ! (List Val) (w ∷ []) (w ∷ []) refl $ fjoin ! $
        fpack ! (Valss (RawPtr ∷ Heap.the_row ∷ []))
        (within (shape (Box.the_type T Heap.the_row ghosts)) (h.ptr, (h.alloc, tt)) (w ∷ []))
        (ptr_val h.ptr ∷ [], (hv ∷ [], tt)) $ fjoin ! $ use1 𝓛 (Held (w ∷ [])) (id⊢ 𝓤 _) $
        use1 𝓛 (‵ (Made (w ∷ []))) (subst (λ (F : Fml). ent 𝓤 (sem 𝓛 F) (sem 𝓛 (Made (w ∷ [])))) (K.still_owned d (w ∷ []))
        (id⊢ 𝓤 _)) $
        let Γ : List (Item 𝓤) = ‵ (Made (w ∷ [])) ∷ [] in
        by ! (subst (λ (us : List Val). ent 𝓤 (types.Kit.⋆ 𝓛 Γ) (WpFn 𝓤 H 𝓣.C 𝓣.Λ fn' (us ++ []) Post)) (sym ws)
        (qed 𝓛 Γ ∵ enter ! 𝓣.C 𝓣.Λ fn' (w ∷ []) _ $ alloc_all ! (λ ls. pass_all ! refl (typed from h.ptr hv fa, tt) $
        sets ! (of_opd ! (get_in ! (fld ! refl (stop !)) (sub ! 0 refl (whole !)))) refl (ptr_typed h.ptr) $
        sets ! (of_opd ! (get_in ! (fld ! refl (stop !)) (sub ! 1 refl (whole !)))) refl fa $
        sets ! (of_opd ! (get ! refl)) refl (ptr_typed h.ptr) $
        sets ! (agg ! (and_then ! (get ! refl) (and_then ! (get ! refl) (no_more !)))) refl (typed to h.ptr hv fa) $
        returns ! (look_at ! 0 refl) $ free_all ! refl $
        suffices ! _ (ends_at 𝓛 ended stayed held z w (K.into d) (K.last d, tt) (tt, tt)) $ says ! (said d) $
        nothing ! $ nothing ! $ fjoin ! $ join ! $ nothing ! $ join ! $ done !)))))))

    pub converts : Meets 𝓛 ended.signature (WpFn 𝓤 H 𝓣.C 𝓣.Λ fn') (closing 𝓛 ended held)
    converts = walk_Meets 𝓛 ended stayed
        (Goes-dropped 𝓛 0 (plain (λ _. From)) yes (λ _. K.nothing_left), tt) held
        (WpFn 𝓤 H 𝓣.C 𝓣.Λ fn') (WpFn-mono 𝓤 H 𝓛.laws 𝓣 fn') walk
