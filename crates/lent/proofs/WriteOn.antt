-- A write over a record that a host lends, by a step that takes the loan itself: it hands the loan on, with the byte, and has it back when the step returns; so what the step
-- promises of the record before and after is true of the record lent.
--     fn f(d: &mut S, byte: u8) { g(d, byte); }
-- with or without the last `;`, and also where `g` is a method over `&mut self`, as in `d.write_low(byte);`. The loan goes on at its own lifetime and under its own name, so at its end
-- the function has what says the record's last value, and the loan, closed (`gave_ref`). Write.antt has the shape whose step takes and gives the record by value.
-- The walk has S, as any type R (a declared struct T is `row T`), the step g, as any callee that a call names, its promise `Says` and the function's own, `Claims`, as parameters. It
-- doesn't look into the record, so it asks no law of R.
-- In a walk a comment in brackets is the row of what is owned there, from the front; `_n` is local n with its memory, two entries each.
-- Assumes nothing.
use mathlib.Core.Path.{refl, sym, ap, subst}
use Prim.Native.Nat.{ℕ, ◌<◌, ◌^◌}
use mathlib.Core.List.{[], ◌∷◌, List}
use seplogic.Ra.Ura.{Ura}
use lib.Dec.{T}
use mir.Syntax.{Callee, Fn, local, value_local, place, copy, rv_opd, opd_unit, assign, addr_of, erased, call, seq, return, deref, mut, ty_ref, ty_int, ty_unit, named, w8}
use mir.Val.{Val, vunit, vint, vptr, has_ty, WT}
use base.Logic.{SProp, ent, emp, via, fst∗, id⊢}
use base.Fml.{Fml, GName, Lft, Share, ftrue, fsep, flft, fres, fbor}
use prog.Wp.{Calls, Loops, WpFn, Tables}
use types.Logic.{Logic}
use contract.Monad.{fact}
use types.Kit.{‵, raw, some, later, ◌⊛◌, ⋆, ◌$◌, ◌∵◌, !, qed, by, move, keep, drop, use1, use2, split, join, pick, fsplit, fjoin, feq_l, feq_i, suffices, frame, await, done}
use types.Run.{look, init, forget, stop, hop, from, load, addr, unit_lit, of_opd, and_then, no_more, assigns, land, returns, enter, alloc1, alloc0, params1, pass1, pass0, free1, free0}
use types.SemTy.{Body}
use sound.WpLaws.{FmC, fm_of, WpFn-mono}
use denote.RattleType.{RattleType, owns}
use denote.Laws.{Is}
use denote.Memory.{lone, mem, pointee}
use denote.Plain.{uint_vals, uint_Tells, uint_Makes}
use denote.Builtin.{u8, unit}
use denote.Ref.{MutBor, MutRef, mut_vals, mut_Tells}
use denote.Signature.{plain, mut_ref_to}
use denote.Steps.{only, owned, heard, nothing}
use denote.Triple.Entry.{on_entry}
use denote.Triple.Spec.{Meets, triple_of}
use denote.Triple.Statement.{Contract, Triple}
use denote.Triple.Call.{calls_at}
use denote.Triple.Clauses.{Ended, Clauses, closing, ensured, lasts}
use denote.Triple.Walked.{says, Stays, gave_ref, stay_none, walk_of, AllGo, Goes-none, Goes-gave_ref, Walks, ends_at, walked, walk_Meets}
use denote.Exit.{yes}

module _ (R : RattleType) where
  -- the function's and the step's alike
  abbrev write_on_lent : Ended
  write_on_lent = record {
    signature = record { lifetimes = 1; outlives = []; params = mut_ref_to (0 ∷ []) tt (plain (λ _. R)) ∷ plain (λ _. u8) ∷ []; result = plain (λ _. unit) };
    kept = (yes, (yes, tt));
  }

  abbrev write_on_stays : Stays write_on_lent.signature.params write_on_lent.kept
  write_on_stays = (gave_ref (0 ∷ []) tt (plain (λ _. R)), (stay_none (λ _. u8) yes, tt))

  abbrev write_on_code : Callee → Fn
  write_on_code g = record {
    lifetimes = 1;
    outlives = [];
    ty_params = [];
    givens = 0;
    params = 2;
    locals = local ty_unit value_local ∷ local (ty_ref (named 0) mut (pointee R.written)) value_local ∷ local (ty_int w8) value_local ∷ local ty_unit value_local ∷ local (ty_ref erased mut (pointee R.written)) value_local ∷ [];
    body = seq (assign (place 4 []) (addr_of (place 1 (deref (lone R.mir) ∷ []))))
        (seq (call g (copy (place 4 []) ∷ copy (place 2 []) ∷ []) (place 3 []))
        (seq (assign (place 0 []) (rv_opd opd_unit)) return));
  }

  -- what is said of the record before, the byte and the record after: by the function, and by the step
  module _ (Says : R.Denot → ℕ → R.Denot → Type 0) {M : Type 1} (𝓤 : Ura M) where
    abbrev write_on_promise : Clauses 𝓤 write_on_lent
    write_on_promise κs a = record { ghost = Unit {0}; requires = λ _. emp 𝓤; ensures = λ _ r e. fact 𝓤 (Says a.0.now a.1.0 e.0.now) }

    module _ (𝓛 : Logic 𝓤) where
      abbrev pub WriteOnStep : Contract 𝓤
      WriteOnStep = triple_of 𝓛 write_on_lent.signature (closing 𝓛 write_on_lent write_on_promise)

  module _ (Says Claims : R.Denot → ℕ → R.Denot → Type 0) (so : (before : R.Denot) (n : ℕ) (after : R.Denot) → Says before n after → Claims before n after) (g : Callee) {M : Type 1} {𝓤 : Ura M} (𝓛 : Logic 𝓤)
      (κ : Lft) (q : Share) (b o : ℕ) (γ : GName) (d : R.Denot) (n : ℕ) (n_fits : n < 2 ^ 8) where
    open 𝓛 use {H}

    abbrev write_on_args : MutBor R.Denot × (ℕ × Unit {0})
    write_on_args = (record { ref_ptr = (b, o); ghost_name = γ; now = d }, (n, tt))

    abbrev write_on_vals : List Val × (List Val × Unit {0})
    write_on_vals = (vptr b o ∷ [], (vint w8 n ∷ [], tt))

    abbrev WriteOnEnd : Val → SProp 𝓤
    WriteOnEnd = (walk_of 𝓛 write_on_lent write_on_stays (write_on_promise Claims 𝓤)).post (((κ, tt), (q, tt), tt, write_on_args, write_on_vals), tt)

    -- the record lent, once the step is done with it: its last value, and the loan, closed
    abbrev given_back : R.Denot → Fml
    given_back d' = fsep (fres γ (R.coded.code d')) (fbor κ (Body (mem R) b o γ))

    write_on_ends : (d' : R.Denot) → Claims d n d' → ent 𝓤 (⋆ 𝓛 ((‵ (flft κ q) ⊛ ‵ ftrue) ∷ ‵ (given_back d') ∷ [])) (WriteOnEnd vunit)
    write_on_ends d' e =
        qed 𝓛 ((‵ (flft κ q) ⊛ ‵ ftrue) ∷ ‵ (given_back d') ∷ []) ∵
        suffices ! _ (ends_at 𝓛 write_on_lent write_on_stays (write_on_promise Claims 𝓤) (((κ, tt), (q, tt), tt, write_on_args, write_on_vals), tt) vunit tt (d', (tt, tt)) (tt, (tt, tt))) $
        says ! e $ frame ! $ nothing ! $
        owned ! u8 (Is u8) (uint_Makes 𝓛 w8) n _ (refl, n_fits) $ fjoin ! $ move ! (1 ∷ 0 ∷ []) $ fjoin ! $
        feq_i ! (List Val) (vunit ∷ []) (vunit ∷ []) refl $ move ! (1 ∷ 0 ∷ []) $ done !

    -- the call: the record goes on to the step as it was lent, at the same lifetime and under the same name
    abbrev write_on_given : (WriteOnStep Says 𝓤 𝓛).Ghost
    write_on_given = (((κ, tt), (q, tt), tt, write_on_args, write_on_vals), tt)

    write_on_gives : ent 𝓤 (⋆ 𝓛 ((‵ (flft κ q) ⊛ ‵ ftrue) ∷ ‵ (owns (MutRef (named 0) κ R ∷ u8 ∷ []) write_on_args write_on_vals) ∷ [])) ((WriteOnStep Says 𝓤 𝓛).pre write_on_given)
    write_on_gives =
        qed 𝓛 ((‵ (flft κ q) ⊛ ‵ ftrue) ∷ ‵ (owns (MutRef (named 0) κ R ∷ u8 ∷ []) write_on_args write_on_vals) ∷ []) ∵ join ! $ frame ! $ done !

    module _ (C : Calls 𝓤 H) (Λ : Loops 𝓤 H) (fm : FmC 𝓤 H 𝓛.laws C) (known : Triple 𝓤 (C g) (WriteOnStep Says 𝓤 𝓛)) where
      write_on_walk : ent 𝓤 (on_entry 𝓛 write_on_lent.signature (κ, tt) (q, tt) write_on_args write_on_vals) (WpFn 𝓤 H C Λ (write_on_code g) (vptr b o ∷ vint w8 n ∷ []) WriteOnEnd)
      write_on_walk =
          qed 𝓛 ((‵ (flft κ q) ⊛ ‵ ftrue) ∷ ‵ (owns (MutRef (named 0) κ R ∷ u8 ∷ []) write_on_args write_on_vals) ∷ []) ∵
          enter ! C Λ (write_on_code g) (vptr b o ∷ vint w8 n ∷ []) _ $
          alloc1 ! (λ l₀. alloc1 ! (λ l₁. alloc1 ! (λ l₂. alloc1 ! (λ l₃. alloc1 ! (λ l₄. alloc0 ! $ params1 ! $
          pass1 ! (init ! 6 refl (tt, tt)) $ pass1 ! (init ! 4 refl (tt, record { fits = n_fits })) $ pass0 ! $
          -- [_4; _3; _2; _1; room for _0; the loan's token; the loan and the byte]
          assigns ! (addr ! (from ! (hop ! (look ! 6 refl) (stop !)))) (from ! (stop !)) (init ! 0 refl (tt, tt)) $
          -- the step
          move ! (10 ∷ 11 ∷ []) $ use2 𝓛 (raw ((WriteOnStep Says 𝓤 𝓛).pre write_on_given)) write_on_gives $
          calls_at ! fm (WriteOnStep Says 𝓤 𝓛) known write_on_given (and_then ! (load ! (from ! (stop !)) (look ! 1 refl)) (and_then ! (load ! (from ! (stop !)) (look ! 5 refl)) (no_more !))) (λ w.
          use1 𝓛 (later (some (λ (r : Unit {0}). ((‵ (flft κ q) ⊛ ‵ ftrue) ⊛ ‵ (unit.own_val r (w ∷ []))) ⊛ raw (ensured 𝓛 write_on_lent (write_on_promise Says 𝓤) (κ, tt) write_on_args tt r)))) (id⊢ 𝓤 _) $
          await ! tt $ pick ! (λ r. split ! $ move ! (1 ∷ []) $
          use1 𝓛 (some (λ (ss : R.Denot × (Unit {0} × Unit {0})). ‵ (lasts write_on_lent (κ, tt) write_on_args ss) ⊛ raw (fact 𝓤 (Says d n ss.0)))) (id⊢ 𝓤 _) $ pick ! (λ ss.
          split ! $ move ! (1 ∷ []) $ heard ! (Says d n ss.0) (λ e. fsplit ! $ move ! (1 ∷ []) $ drop ! $
          move ! (1 ∷ []) $ split ! $ move ! (1 ∷ []) $ feq_l ! (λ w_is.
          -- [the loan's token; the record's last value, and the loan; _4; _3; _2; _1; room for _0]
          land ! (from ! (stop !)) (init ! 4 refl (subst (λ (y : Val). T (has_ty ty_unit y) × WT y) (sym (ap only w_is)) (tt, tt))) $
          assigns ! (of_opd ! (unit_lit !)) (from ! (stop !)) (init ! 10 refl (tt, tt)) $
          returns ! (look ! 10 refl) $ forget ! 2 refl $ forget ! 4 refl $ forget ! 6 refl $ forget ! 8 refl $ forget ! 10 refl $
          move ! (10 ∷ 11 ∷ []) $ free1 ! $ move ! (8 ∷ 9 ∷ []) $ free1 ! $ move ! (6 ∷ 7 ∷ []) $ free1 ! $ move ! (4 ∷ 5 ∷ []) $ free1 ! $ move ! (2 ∷ 3 ∷ []) $ free1 ! $ free0 ! $
          keep ! (0 ∷ 1 ∷ []) $ by ! (write_on_ends ss.0 (so d n ss.0 e))))))))))))

  module _ (Says Claims : R.Denot → ℕ → R.Denot → Type 0) (so : (before : R.Denot) (n : ℕ) (after : R.Denot) → Says before n after → Claims before n after) (g : Callee) {M : Type 1} {𝓤 : Ura M} (𝓛 : Logic 𝓤) where
    open 𝓛 use {H}

    write_on_walks : (C : Calls 𝓤 H) (Λ : Loops 𝓤 H) → FmC 𝓤 H 𝓛.laws C → Triple 𝓤 (C g) (WriteOnStep Says 𝓤 𝓛) → Walks 𝓛 write_on_lent write_on_stays (WpFn 𝓤 H C Λ (write_on_code g)) (write_on_promise Claims 𝓤)
    write_on_walks C Λ fm known =
        walked 𝓛 write_on_lent write_on_stays (write_on_promise Claims 𝓤) (WpFn 𝓤 H C Λ (write_on_code g)) (λ κs. (mut_vals, (uint_vals w8, tt))) (λ κs. (mut_Tells (named 0) κs.0 R, (uint_Tells w8, tt)))
        (λ κs qs bounds a _ are. via 𝓤 _ (fst∗ 𝓤 _ (emp 𝓤))
        (write_on_walk Says Claims so g 𝓛 κs.0 qs.0 a.0.ref_ptr.0 a.0.ref_ptr.1 a.0.ghost_name a.0.now a.1.0 are.1.0.1 C Λ fm known))

    write_on_goes : AllGo 𝓛 1 write_on_lent.signature.params write_on_lent.kept write_on_stays
    write_on_goes = (Goes-gave_ref 𝓛 1 0 tt (plain (λ _. R)), (Goes-none 𝓛 1 (λ _. u8) yes (λ κs x f. refl), tt))

    -- A write by a loan handed on keeps its promise where its step does, and the step's promise is enough for it.
    pub write_on_meets : (𝓣 : Tables 𝓤 H) → Triple 𝓤 (𝓣.C g) (WriteOnStep Says 𝓤 𝓛) → Meets 𝓛 write_on_lent.signature (WpFn 𝓤 H 𝓣.C 𝓣.Λ (write_on_code g)) (closing 𝓛 write_on_lent (write_on_promise Claims 𝓤))
    write_on_meets 𝓣 known =
        walk_Meets 𝓛 write_on_lent write_on_stays write_on_goes (write_on_promise Claims 𝓤) (WpFn 𝓤 H 𝓣.C 𝓣.Λ (write_on_code g)) (WpFn-mono 𝓤 H 𝓛.laws 𝓣 (write_on_code g))
        (write_on_walks 𝓣.C 𝓣.Λ (fm_of 𝓤 H 𝓛.laws 𝓣) known)
