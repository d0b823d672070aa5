-- A write over a record that a host lends: it opens the loan, hands a copy of the record to the step by value, stores the record that
-- comes back, and closes the loan at it; so what the step promises of its record is true of the record lent.
--     fn f(d: &mut S, byte: u8) { let before = *d; *d = g(before, byte); }
-- The walk has the struct, as `the_type` T and `the_laws` L that the kit makes for it, the step g, as any callee that a call names, its promise `Says` and the function's
-- own, `Claims`, as parameters. It does not look into the fields: a struct of any fields will do, arrays too.
-- In a walk a comment in brackets is the row of what is owned there, from the front; `_n` is local n with its memory, two entries each.
-- Assumes nothing.
use mathlib.Core.Path.{refl}
use Prim.Native.Nat.{ℕ, ◌<◌, ◌^◌}
use mathlib.Core.List.{[], ◌∷◌, List}
use seplogic.Ra.Ura.{Ura}
use base.Fraction.{full_share}
use mir.Syntax.{Callee, Fn, Ty, local, value_local, place, copy, rv_opd, opd_unit, assign, call, seq, return, deref, mut, ty_ref, ty_int, ty_unit, named, w8}
use mir.Val.{Val, vunit, vint, vptr}
use base.Logic.{SProp, ent, sep, emp, via, fst∗, snd∗, ex_e, id⊢}
use base.Fml.{GName, Lft, Share, ftrue, flft, fobs, fbor}
use prog.Wp.{Calls, Loops, WpFn, Tables}
use types.Logic.{Logic, sem}
use contract.Monad.{fact}
use types.Kit.{‵, raw, some, later, ◌⊛◌, ◌$◌, ◌∵◌, !, qed, by, move, keep, drop, use1, split, join, pick, fsplit, fsplit3, fjoin, fjoin3, feq_i, suffices, frame, await, done}
use types.Run.{look, look_raw, init, store_raw, forget, stop, hop, from, load, unit_lit, of_opd, and_then, no_more, assigns, land, returns, enter, alloc1, alloc0, params1, pass1, pass0, free1, free0}
use types.SemTy.{Body}
use sound.WpLaws.{FmC, fm_of, WpFn-mono}
use denote.RattleType.{RattleType, owns}
use denote.Laws.{Is, shows}
use denote.Memory.{mem, pointee}
use denote.Plain.{uint_vals, uint_Tells, uint_Makes}
use denote.Builtin.{u8, unit, RefMutOf}
use denote.Ref.{MutBor, MutRef, mut_vals, mut_Tells}
use denote.Signature.{plain}
use denote.Steps.{opens, closes, owned, peeks, heard, nothing}
use denote.Struct.Steps.{spelt}
use denote.Struct.Declared.{Declared, row, shape}
use denote.Struct.Struct.{layout}
use denote.Struct.Laws as LL
use denote.Triple.Entry.{on_entry}
use denote.Triple.Spec.{Meets, triple_of}
use denote.Triple.Statement.{Contract, Triple}
use denote.Triple.Call.{calls_at}
use denote.Triple.Clauses.{Ended, Clauses, closing, ensured, lasts}
use denote.Triple.Walked.{says, Stays, stay_ref, stay_none, walk_of, AllGo, Goes-none, Goes-ref, Walks, ends_at, walked, walk_Meets}
use denote.Exit.{yes}

module _ (T : Declared) where
  abbrev R : RattleType
  R = row T

  abbrev laid : Ty
  laid = layout (shape T)

  abbrev write_lent : Ended
  write_lent = record {
    signature = record { lifetimes = 1; outlives = []; params = RefMutOf (0 ∷ []) tt (plain (λ _. R)) (λ _. tt) ∷ plain (λ _. u8) ∷ []; result = plain (λ _. unit) };
    kept = (yes, (yes, tt));
  }

  abbrev write_step : Ended
  write_step = record {
    signature = record { lifetimes = 0; outlives = []; params = plain (λ _. R) ∷ plain (λ _. u8) ∷ []; result = plain (λ _. R) };
    kept = (yes, (yes, tt));
  }

  abbrev write_stays : Stays write_lent.signature.params write_lent.kept
  write_stays = (stay_ref (0 ∷ []) tt (plain (λ _. R)), (stay_none (λ _. u8) yes, tt))

  abbrev write_code : Callee → Fn
  write_code g = record {
    lifetimes = 1;
    outlives = [];
    ty_params = [];
    givens = 0;
    params = 2;
    locals = local ty_unit value_local ∷ local (ty_ref (named 0) mut (pointee R.written)) value_local ∷ local (ty_int w8) value_local ∷ local laid value_local ∷ local laid value_local ∷ [];
    body = seq (assign (place 3 []) (rv_opd (copy (place 1 (deref laid ∷ [])))))
        (seq (call g (copy (place 3 []) ∷ copy (place 2 []) ∷ []) (place 4 []))
        (seq (assign (place 1 (deref laid ∷ [])) (rv_opd (copy (place 4 []))))
        (seq (assign (place 0 []) (rv_opd opd_unit)) return)));
  }

  -- what is said of the record before, the byte and the record after: by the function, and by the step
  module _ (Says : T.D → ℕ → T.D → Type 0) {M : Type 1} (𝓤 : Ura M) where
    abbrev write_promise : Clauses 𝓤 write_lent
    write_promise κs a = record { ghost = Unit {0}; requires = λ _. emp 𝓤; ensures = λ _ r e. fact 𝓤 (Says a.0.now a.1.0 e.0.now) }

    abbrev write_step_promise : Clauses 𝓤 write_step
    write_step_promise κs a = record { ghost = Unit {0}; requires = λ _. emp 𝓤; ensures = λ _ r e. fact 𝓤 (Says a.0 a.1.0 r) }

    module _ (𝓛 : Logic 𝓤) where
      abbrev pub WriteStep : Contract 𝓤
      WriteStep = triple_of 𝓛 write_step.signature (closing 𝓛 write_step write_step_promise)

  module _ (L : LL.Laws T) (Says Claims : T.D → ℕ → T.D → Type 0) (so : (before : T.D) (n : ℕ) (after : T.D) → Says before n after → Claims before n after) (g : Callee) {M : Type 1} {𝓤 : Ura M} (𝓛 : Logic 𝓤)
      (κ : Lft) (q : Share) (b o : ℕ) (γ : GName) (d : T.D) (n : ℕ) (n_fits : n < 2 ^ 8) where
    open 𝓛 use {H, A}

    abbrev write_args : MutBor T.D × (ℕ × Unit {0})
    write_args = (record { ref_ptr = (b, o); ghost_name = γ; now = d }, (n, tt))

    abbrev write_vals : List Val × (List Val × Unit {0})
    write_vals = (vptr b o ∷ [], (vint w8 n ∷ [], tt))

    abbrev WriteEnd : Val → SProp 𝓤
    WriteEnd = (walk_of 𝓛 write_lent write_stays (write_promise Claims 𝓤)).post (((κ, tt), (q, tt), tt, write_args, write_vals), tt)

    write_ends : (d' : T.D) → Claims d n d' → ent 𝓤 (sep 𝓤 (A.obs γ (R.coded.code d')) (sep 𝓤 (A.bor κ (Body (mem R) b o γ)) (A.lft κ q))) (WriteEnd vunit)
    write_ends d' e =
        qed 𝓛 (‵ (fobs γ (R.coded.code d')) ∷ ‵ (fbor κ (Body (mem R) b o γ)) ∷ ‵ (flft κ q) ∷ []) ∵
        suffices ! _ (ends_at 𝓛 write_lent write_stays (write_promise Claims 𝓤) (((κ, tt), (q, tt), tt, write_args, write_vals), tt) vunit tt (d', (tt, tt)) (tt, (tt, tt))) $
        says ! e $ nothing ! $ move ! (3 ∷ 0 ∷ []) $ join ! $ frame ! $
        feq_i ! (List Val) (vptr b o ∷ []) (vptr b o ∷ []) refl $ fjoin3 ! $ nothing ! $
        owned ! u8 (Is u8) (uint_Makes 𝓛 w8) n _ (refl, n_fits) $ fjoin ! $ move ! (1 ∷ 0 ∷ []) $ fjoin ! $
        feq_i ! (List Val) (vunit ∷ []) (vunit ∷ []) refl $ move ! (1 ∷ 0 ∷ []) $ done !

    -- the call: what it is given, and what is known of the record that it gives
    abbrev write_given : (WriteStep Says 𝓤 𝓛).Ghost
    write_given = ((tt, tt, tt, (d, (n, tt)), (LL.val T L d ∷ [], (vint w8 n ∷ [], tt))), tt)

    write_gives : ent 𝓤 (sem 𝓛 (R.own_val d (LL.val T L d ∷ []))) ((WriteStep Says 𝓤 𝓛).pre write_given)
    write_gives =
        qed 𝓛 (‵ (R.own_val d (LL.val T L d ∷ [])) ∷ []) ∵ nothing ! $
        owned ! u8 (Is u8) (uint_Makes 𝓛 w8) n _ (refl, n_fits) $ fjoin ! $ move ! (1 ∷ 0 ∷ []) $ fjoin ! $ nothing ! $ join ! $ frame ! $ done !

    write_learns : (r : T.D) → ent 𝓤 (ensured 𝓛 write_step (write_step_promise Says 𝓤) tt (d, (n, tt)) tt r) (fact 𝓤 (Says d n r))
    write_learns r = ex_e 𝓤 _ (λ ws. snd∗ 𝓤 (sem 𝓛 (lasts write_step tt (d, (n, tt)) ws)) (fact 𝓤 (Says d n r)))

    module _ (C : Calls 𝓤 H) (Λ : Loops 𝓤 H) (fm : FmC 𝓤 H 𝓛.laws C) (known : Triple 𝓤 (C g) (WriteStep Says 𝓤 𝓛)) where
      write_walk : ent 𝓤 (on_entry 𝓛 write_lent.signature (κ, tt) (q, tt) write_args write_vals) (WpFn 𝓤 H C Λ (write_code g) (vptr b o ∷ vint w8 n ∷ []) WriteEnd)
      write_walk =
          qed 𝓛 ((‵ (flft κ q) ⊛ ‵ ftrue) ∷ ‵ (owns (MutRef (named 0) κ R ∷ u8 ∷ []) write_args write_vals) ∷ []) ∵
          split ! $ move ! (2 ∷ []) $ fsplit ! $ fsplit3 ! $ drop ! $ move ! (0 ∷ 1 ∷ 3 ∷ []) $
          -- [what the host will see; the loan; its token; ..]
          enter ! C Λ (write_code g) (vptr b o ∷ vint w8 n ∷ []) _ $
          alloc1 ! (λ l₀. alloc1 ! (λ l₁. alloc1 ! (λ l₂. alloc1 ! (λ l₃. alloc1 ! (λ l₄. alloc0 ! $ params1 ! $
          pass1 ! (init ! 6 refl (tt, tt)) $ pass1 ! (init ! 4 refl (tt, record { fits = n_fits })) $ pass0 ! $
          -- open the loan and copy the record out
          move ! (10 ∷ 11 ∷ 12 ∷ []) $ opens ! tt R {h = d} b o (λ vs.
          spelt ! R (Is R) (shows 𝓛 R) (LL.vals T L) (LL.tells T L) full_share d vs b o $
          move ! (1 ∷ []) $ peeks ! R (Is R) (shows 𝓛 R) d (LL.vals T L d) (λ was. move ! (1 ∷ 0 ∷ []) $
          -- [the record's memory; the record; the open loan; what the host will see; its other half; _4; _3; _2; _1; room for _0]
          assigns ! (of_opd ! (load ! (from ! (hop ! (look ! 11 refl) (stop !))) (look_raw ! 0 refl))) (from ! (stop !)) (init ! 7 refl ((LL.lawful T L 𝓛).typed d _ was).0) $
          -- the step
          move ! (1 ∷ []) $ use1 𝓛 (raw ((WriteStep Says 𝓤 𝓛).pre write_given)) write_gives $
          calls_at ! fm (WriteStep Says 𝓤 𝓛) known write_given (and_then ! (load ! (from ! (stop !)) (look ! 7 refl)) (and_then ! (load ! (from ! (stop !)) (look ! 9 refl)) (no_more !))) (λ w.
          use1 𝓛 (later (some (λ (r : T.D). (‵ ftrue ⊛ ‵ (R.own_val r (w ∷ []))) ⊛ raw (ensured 𝓛 write_step (write_step_promise Says 𝓤) tt (d, (n, tt)) tt r)))) (id⊢ 𝓤 _) $
          await ! tt $ pick ! (λ r. split ! $ move ! (1 ∷ []) $
          use1 𝓛 (raw (fact 𝓤 (Says d n r))) (write_learns r) $ heard ! (Says d n r) (λ e. split ! $ drop ! $
          peeks ! R (Is R) (shows 𝓛 R) r (w ∷ []) (λ is.
          land ! (from ! (stop !)) (init ! 5 refl ((LL.lawful T L 𝓛).typed r _ is).0) $
          -- [the step's record; the record's memory; the open loan; ..]: store it, and close the loan at it
          assigns ! (of_opd ! (load ! (from ! (stop !)) (look ! 5 refl))) (from ! (hop ! (look ! 11 refl) (stop !))) (store_raw ! 1 refl ((LL.lawful T L 𝓛).typed r _ is).0) $
          assigns ! (of_opd ! (unit_lit !)) (from ! (stop !)) (init ! 13 refl (tt, tt)) $
          move ! (1 ∷ 0 ∷ []) $ closes ! tt R r (w ∷ []) b o $
          returns ! (look ! 11 refl) $ forget ! 3 refl $ forget ! 5 refl $ forget ! 7 refl $ forget ! 9 refl $ forget ! 11 refl $
          move ! (11 ∷ 12 ∷ []) $ free1 ! $ move ! (9 ∷ 10 ∷ []) $ free1 ! $ move ! (7 ∷ 8 ∷ []) $ free1 ! $ move ! (5 ∷ 6 ∷ []) $ free1 ! $ move ! (3 ∷ 4 ∷ []) $ free1 ! $ free0 ! $
          keep ! (0 ∷ 1 ∷ 2 ∷ []) $ by ! (write_ends r (so d n r e)))))))))))))

  module _ (L : LL.Laws T) (Says Claims : T.D → ℕ → T.D → Type 0) (so : (before : T.D) (n : ℕ) (after : T.D) → Says before n after → Claims before n after) (g : Callee) {M : Type 1} {𝓤 : Ura M} (𝓛 : Logic 𝓤) where
    open 𝓛 use {H}

    write_walks : (C : Calls 𝓤 H) (Λ : Loops 𝓤 H) → FmC 𝓤 H 𝓛.laws C → Triple 𝓤 (C g) (WriteStep Says 𝓤 𝓛) → Walks 𝓛 write_lent write_stays (WpFn 𝓤 H C Λ (write_code g)) (write_promise Claims 𝓤)
    write_walks C Λ fm known =
        walked 𝓛 write_lent write_stays (write_promise Claims 𝓤) (WpFn 𝓤 H C Λ (write_code g)) (λ κs. (mut_vals, (uint_vals w8, tt))) (λ κs. (mut_Tells (named 0) κs.0 R, (uint_Tells w8, tt)))
        (λ κs qs bounds a _ are. via 𝓤 _ (fst∗ 𝓤 _ (emp 𝓤))
        (write_walk L Says Claims so g 𝓛 κs.0 qs.0 a.0.ref_ptr.0 a.0.ref_ptr.1 a.0.ghost_name a.0.now a.1.0 are.1.0.1 C Λ fm known))

    write_goes : AllGo 𝓛 1 write_lent.signature.params write_lent.kept write_stays
    write_goes = (Goes-ref 𝓛 1 0 tt (plain (λ _. R)), (Goes-none 𝓛 1 (λ _. u8) yes (λ κs x f. refl), tt))

    -- A write keeps its promise where its step does, and the step's promise is enough for it.
    pub write_meets : (𝓣 : Tables 𝓤 H) → Triple 𝓤 (𝓣.C g) (WriteStep Says 𝓤 𝓛) → Meets 𝓛 write_lent.signature (WpFn 𝓤 H 𝓣.C 𝓣.Λ (write_code g)) (closing 𝓛 write_lent (write_promise Claims 𝓤))
    write_meets 𝓣 known =
        walk_Meets 𝓛 write_lent write_stays write_goes (write_promise Claims 𝓤) (WpFn 𝓤 H 𝓣.C 𝓣.Λ (write_code g)) (WpFn-mono 𝓤 H 𝓛.laws 𝓣 (write_code g))
        (write_walks 𝓣.C 𝓣.Λ (fm_of 𝓤 H 𝓛.laws 𝓣) known)
