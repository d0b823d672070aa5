-- A reset over a record that a host lends: as a write (Write.antt), with a step that is given nothing.
--     fn f(d: &mut S) { *d = g(); }
-- Assumes nothing.
use mathlib.Core.Path.{refl}
use Prim.Native.Nat.{ℕ}
use mathlib.Core.List.{[], ◌∷◌, List}
use seplogic.Ra.Ura.{Ura}
use base.Fraction.{full_share}
use mir.Syntax.{Callee, Fn, Ty, local, value_local, place, copy, rv_opd, opd_unit, assign, call, seq, return, deref, mut, ty_ref, ty_unit, named}
use mir.Val.{Val, vunit, vptr}
use base.Logic.{SProp, ent, sep, emp, via, fst∗, snd∗, ex_e, id⊢}
use base.Fml.{GName, Lft, Share, ftrue, flft, fobs, fbor}
use prog.Wp.{Calls, Loops, WpFn, Tables}
use types.Logic.{Logic, sem}
use contract.Monad.{fact}
use types.Kit.{‵, raw, some, later, ◌⊛◌, ◌$◌, ◌∵◌, !, qed, by, move, keep, drop, use1, split, join, pick, fsplit, fsplit3, fjoin, fjoin3, feq_i, suffices, frame, await, done}
use types.Run.{look, init, store_raw, forget, stop, hop, from, load, unit_lit, of_opd, no_more, assigns, land, returns, enter, alloc1, alloc0, params1, pass1, pass0, free1, free0}
use types.SemTy.{Body}
use sound.WpLaws.{FmC, fm_of, WpFn-mono}
use denote.RattleType.{RattleType, owns}
use denote.Laws.{Is, shows}
use denote.Memory.{mem, pointee}
use denote.Builtin.{unit, RefMutOf}
use denote.Ref.{MutBor, MutRef, mut_vals, mut_Tells}
use denote.Signature.{plain}
use denote.Steps.{opens, closes, peeks, heard, nothing}
use denote.Struct.Steps.{spelt}
use denote.Struct.Declared.{Declared, row, shape}
use denote.Struct.Struct.{layout}
use denote.Struct.Laws as LL
use denote.Triple.Entry.{on_entry}
use denote.Triple.Spec.{Meets, triple_of}
use denote.Triple.Statement.{Contract, Triple}
use denote.Triple.Call.{calls_at}
use denote.Triple.Clauses.{Ended, Clauses, closing, ensured, lasts}
use denote.Triple.Walked.{says, Stays, stay_ref, walk_of, AllGo, Goes-ref, Walks, ends_at, walked, walk_Meets}
use denote.Exit.{yes}

module _ (T : Declared) where
  abbrev R : RattleType
  R = row T

  abbrev laid : Ty
  laid = layout (shape T)

  abbrev reset_lent : Ended
  reset_lent = record {
    signature = record { lifetimes = 1; outlives = []; params = RefMutOf (0 ∷ []) tt (plain (λ _. R)) (λ _. tt) ∷ []; result = plain (λ _. unit) };
    kept = (yes, tt);
  }

  abbrev reset_step : Ended
  reset_step = record { signature = record { lifetimes = 0; outlives = []; params = []; result = plain (λ _. R) }; kept = tt }

  abbrev reset_stays : Stays reset_lent.signature.params reset_lent.kept
  reset_stays = (stay_ref (0 ∷ []) tt (plain (λ _. R)), tt)

  abbrev reset_code : Callee → Fn
  reset_code g = record {
    lifetimes = 1;
    outlives = [];
    ty_params = [];
    givens = 0;
    params = 1;
    locals = local ty_unit value_local ∷ local (ty_ref (named 0) mut (pointee R.written)) value_local ∷ local laid value_local ∷ [];
    body = seq (call g [] (place 2 []))
        (seq (assign (place 1 (deref laid ∷ [])) (rv_opd (copy (place 2 []))))
        (seq (assign (place 0 []) (rv_opd opd_unit)) return));
  }

  -- what is said of the record after: by the function, and by the step
  module _ (Says : T.D → Type 0) {M : Type 1} (𝓤 : Ura M) where
    abbrev reset_promise : Clauses 𝓤 reset_lent
    reset_promise κs a = record { ghost = Unit {0}; requires = λ _. emp 𝓤; ensures = λ _ r e. fact 𝓤 (Says e.0.now) }

    abbrev reset_step_promise : Clauses 𝓤 reset_step
    reset_step_promise κs a = record { ghost = Unit {0}; requires = λ _. emp 𝓤; ensures = λ _ r e. fact 𝓤 (Says r) }

    module _ (𝓛 : Logic 𝓤) where
      abbrev pub ResetStep : Contract 𝓤
      ResetStep = triple_of 𝓛 reset_step.signature (closing 𝓛 reset_step reset_step_promise)

  module _ (L : LL.Laws T) (Says Claims : T.D → Type 0) (so : (after : T.D) → Says after → Claims after) (g : Callee) {M : Type 1} {𝓤 : Ura M} (𝓛 : Logic 𝓤)
      (κ : Lft) (q : Share) (b o : ℕ) (γ : GName) (d : T.D) where
    open 𝓛 use {H, A}

    abbrev reset_args : MutBor T.D × Unit {0}
    reset_args = (record { ref_ptr = (b, o); ghost_name = γ; now = d }, tt)

    abbrev reset_vals : List Val × Unit {0}
    reset_vals = (vptr b o ∷ [], tt)

    abbrev ResetEnd : Val → SProp 𝓤
    ResetEnd = (walk_of 𝓛 reset_lent reset_stays (reset_promise Claims 𝓤)).post (((κ, tt), (q, tt), tt, reset_args, reset_vals), tt)

    reset_ends : (d' : T.D) → Claims d' → ent 𝓤 (sep 𝓤 (A.obs γ (R.coded.code d')) (sep 𝓤 (A.bor κ (Body (mem R) b o γ)) (A.lft κ q))) (ResetEnd vunit)
    reset_ends d' e =
        qed 𝓛 (‵ (fobs γ (R.coded.code d')) ∷ ‵ (fbor κ (Body (mem R) b o γ)) ∷ ‵ (flft κ q) ∷ []) ∵
        suffices ! _ (ends_at 𝓛 reset_lent reset_stays (reset_promise Claims 𝓤) (((κ, tt), (q, tt), tt, reset_args, reset_vals), tt) vunit tt (d', tt) (tt, tt)) $
        says ! e $ nothing ! $ move ! (3 ∷ 0 ∷ []) $ join ! $ frame ! $
        feq_i ! (List Val) (vptr b o ∷ []) (vptr b o ∷ []) refl $ fjoin3 ! $ nothing ! $ move ! (1 ∷ 0 ∷ []) $ fjoin ! $
        feq_i ! (List Val) (vunit ∷ []) (vunit ∷ []) refl $ move ! (1 ∷ 0 ∷ []) $ done !

    -- the call, which is given nothing
    abbrev reset_given : (ResetStep Says 𝓤 𝓛).Ghost
    reset_given = ((tt, tt, tt, tt, tt), tt)

    reset_gives : ent 𝓤 (sep 𝓤 (sem 𝓛 ftrue) (sem 𝓛 ftrue)) ((ResetStep Says 𝓤 𝓛).pre reset_given)
    reset_gives = qed 𝓛 ((‵ ftrue ⊛ ‵ ftrue) ∷ []) ∵ frame ! $ done !

    reset_learns : (r : T.D) → ent 𝓤 (ensured 𝓛 reset_step (reset_step_promise Says 𝓤) tt tt tt r) (fact 𝓤 (Says r))
    reset_learns r = ex_e 𝓤 _ (λ ws. snd∗ 𝓤 (sem 𝓛 (lasts reset_step tt tt ws)) (fact 𝓤 (Says r)))

    module _ (C : Calls 𝓤 H) (Λ : Loops 𝓤 H) (fm : FmC 𝓤 H 𝓛.laws C) (known : Triple 𝓤 (C g) (ResetStep Says 𝓤 𝓛)) where
      reset_walk : ent 𝓤 (on_entry 𝓛 reset_lent.signature (κ, tt) (q, tt) reset_args reset_vals) (WpFn 𝓤 H C Λ (reset_code g) (vptr b o ∷ []) ResetEnd)
      reset_walk =
          qed 𝓛 ((‵ (flft κ q) ⊛ ‵ ftrue) ∷ ‵ (owns (MutRef (named 0) κ R ∷ []) reset_args reset_vals) ∷ []) ∵
          split ! $ move ! (2 ∷ []) $ fsplit ! $ fsplit3 ! $ drop ! $ move ! (0 ∷ 1 ∷ 3 ∷ []) $
          -- [what the host will see; the loan; its token; ..]
          enter ! C Λ (reset_code g) (vptr b o ∷ []) _ $
          alloc1 ! (λ l₀. alloc1 ! (λ l₁. alloc1 ! (λ l₂. alloc0 ! $ params1 ! $ pass1 ! (init ! 2 refl (tt, tt)) $ pass0 ! $
          -- the step
          nothing ! $ nothing ! $ join ! $ use1 𝓛 (raw ((ResetStep Says 𝓤 𝓛).pre reset_given)) reset_gives $
          calls_at ! fm (ResetStep Says 𝓤 𝓛) known reset_given (no_more !) (λ w.
          use1 𝓛 (later (some (λ (r : T.D). (‵ ftrue ⊛ ‵ (R.own_val r (w ∷ []))) ⊛ raw (ensured 𝓛 reset_step (reset_step_promise Says 𝓤) tt tt tt r)))) (id⊢ 𝓤 _) $
          await ! tt $ pick ! (λ r. split ! $ move ! (1 ∷ []) $
          use1 𝓛 (raw (fact 𝓤 (Says r))) (reset_learns r) $ heard ! (Says r) (λ e. split ! $ drop ! $
          peeks ! R (Is R) (shows 𝓛 R) r (w ∷ []) (λ is.
          land ! (from ! (stop !)) (init ! 1 refl ((LL.lawful T L 𝓛).typed r _ is).0) $
          -- [the step's record; _2; _1; room for _0; what the host will see; the loan; its token]: open the loan, store, and close it
          move ! (7 ∷ 8 ∷ 9 ∷ []) $ opens ! tt R {h = d} b o (λ vs.
          spelt ! R (Is R) (shows 𝓛 R) (LL.vals T L) (LL.tells T L) full_share d vs b o $
          assigns ! (of_opd ! (load ! (from ! (stop !)) (look ! 6 refl))) (from ! (hop ! (look ! 8 refl) (stop !))) (store_raw ! 0 refl ((LL.lawful T L 𝓛).typed r _ is).0) $
          assigns ! (of_opd ! (unit_lit !)) (from ! (stop !)) (init ! 10 refl (tt, tt)) $
          move ! (0 ∷ 5 ∷ 2 ∷ 3 ∷ 4 ∷ []) $ closes ! tt R r (w ∷ []) b o $
          returns ! (look ! 8 refl) $ forget ! 4 refl $ forget ! 6 refl $ forget ! 8 refl $
          move ! (8 ∷ 9 ∷ []) $ free1 ! $ move ! (6 ∷ 7 ∷ []) $ free1 ! $ move ! (4 ∷ 5 ∷ []) $ free1 ! $ free0 ! $
          keep ! (0 ∷ 1 ∷ 2 ∷ []) $ by ! (reset_ends r (so r e))))))))))

  module _ (L : LL.Laws T) (Says Claims : T.D → Type 0) (so : (after : T.D) → Says after → Claims after) (g : Callee) {M : Type 1} {𝓤 : Ura M} (𝓛 : Logic 𝓤) where
    open 𝓛 use {H}

    reset_walks : (C : Calls 𝓤 H) (Λ : Loops 𝓤 H) → FmC 𝓤 H 𝓛.laws C → Triple 𝓤 (C g) (ResetStep Says 𝓤 𝓛) → Walks 𝓛 reset_lent reset_stays (WpFn 𝓤 H C Λ (reset_code g)) (reset_promise Claims 𝓤)
    reset_walks C Λ fm known =
        walked 𝓛 reset_lent reset_stays (reset_promise Claims 𝓤) (WpFn 𝓤 H C Λ (reset_code g)) (λ κs. (mut_vals, tt)) (λ κs. (mut_Tells (named 0) κs.0 R, tt))
        (λ κs qs bounds a _ are. via 𝓤 _ (fst∗ 𝓤 _ (emp 𝓤)) (reset_walk L Says Claims so g 𝓛 κs.0 qs.0 a.0.ref_ptr.0 a.0.ref_ptr.1 a.0.ghost_name a.0.now C Λ fm known))

    reset_goes : AllGo 𝓛 1 reset_lent.signature.params reset_lent.kept reset_stays
    reset_goes = (Goes-ref 𝓛 1 0 tt (plain (λ _. R)), tt)

    -- A reset keeps its promise where its step does, and the step's promise is enough for it.
    pub reset_meets : (𝓣 : Tables 𝓤 H) → Triple 𝓤 (𝓣.C g) (ResetStep Says 𝓤 𝓛) → Meets 𝓛 reset_lent.signature (WpFn 𝓤 H 𝓣.C 𝓣.Λ (reset_code g)) (closing 𝓛 reset_lent (reset_promise Claims 𝓤))
    reset_meets 𝓣 known =
        walk_Meets 𝓛 reset_lent reset_stays reset_goes (reset_promise Claims 𝓤) (WpFn 𝓤 H 𝓣.C 𝓣.Λ (reset_code g)) (WpFn-mono 𝓤 H 𝓛.laws 𝓣 (reset_code g))
        (reset_walks 𝓣.C 𝓣.Λ (fm_of 𝓤 H 𝓛.laws 𝓣) known)
