-- A play over a record that a host lends, by a step that takes the loan itself: as a write by a loan handed on (WriteOn.antt), with the clocks asked for, the bytes lent, which go
-- on to the step too, and the step's case, which a second function tells in numbers.
--     fn f(d: &mut S, clocks: u32, s: &mut [u8]) -> Answer { let outcome = g(d, clocks, s); h(outcome) }
-- or the two calls in one, and also where `g` is a method over `&mut self`, as in `Answer::from(d.play(clocks, s))`. Play.antt has the shape whose step takes and gives the record by
-- value. The telling may have m lifetimes of its own, as a generic function has one for each of its type parameters: it is called at lifetimes that never end, and `Wants` is what it
-- asks of them. With none, m is 0 and `Wants` is `emp`.
-- The walk has S, the case and the answer, as any types R, E and A (a declared struct or enum T is `row T`), the step g and the telling h, as any callees that a call names, their
-- promises `Says` and `Tells` and the function's own, `Claims`, as parameters. It doesn't look into any of the three: of E and A it asks that they are `Lawful`, and of R nothing.
-- In a walk a comment in brackets is the row of what is owned there, from the front; `_n` is local n with its memory, two entries each.
-- Assumes nothing.
use mathlib.Core.Path.{◌≡◌, refl}
use Prim.Native.Nat.{ℕ, zero, suc, ◌<◌, ◌^◌}
use mathlib.Core.List.{[], ◌∷◌, List}
use lib.ListN.{length}
use seplogic.Ra.Ura.{Ura}
use base.Fraction.{full_share}
use lib.Dec.{T}
use mir.Syntax.{Callee, Fn, Ty, local, value_local, place, copy, assign, aggregate, addr_of, field, erased, call, seq, return, deref, mut, ty_ref, ty_int, named, w8, w32}
use mir.Val.{Val, vint, vptr, has_ty, WT}
use base.Logic.{SProp, ent, sep, emp, via, mono∗, emp∗, fst∗, snd∗, ex_e, id⊢}
use base.Fml.{Fml, GName, Lft, Share, ftrue, fsep, flft, fres, fbor}
use prog.Wp.{Calls, Loops, WpFn, Tables}
use types.Logic.{Logic, sem}
use contract.Monad.{fact}
use contract.Lifetimes.{Lfts, Shares, toks}
use types.Kit.{‵, raw, some, later, ◌⊛◌, ⋆, ◌$◌, ◌∵◌, !, qed, by, move, keep, drop, use0, use1, use2, split, join, pick, fsplit, fjoin, feq_l, suffices, frame, await, done}
use types.Run.{look, addr, fld, init, forget, stop, hop, from, load, and_then, no_more, assigns, land, returns, enter, alloc1, alloc0, params1, pass1, pass0, free1, free0}
use types.Part.{agg, whole, sub, look_in}
use types.SemTy.{Body, Arr}
use types.Hole.{Holey}
use sound.WpLaws.{FmC, fm_of, WpFn-mono}
use denote.RattleType.{RattleType, owns}
use denote.Laws.{Typed, Is, Lawful, shows}
use denote.Memory.{lone, mem, pointee}
use denote.Plain.{uint_vals, uint_Tells, uint_Makes}
use denote.Builtin.{u8, u32, SliceRefMutOf}
use denote.Ref.{MutBor, MutRef, mut_vals, mut_Tells}
use denote.Slice.{slice_ty, slice_val, mut_slice_vals, MutSlice, Room, finally, mut_slice_Tells}
use denote.Signature.{plain, mut_ref_to}
use denote.Steps.{owned, peeks, heard, nothing}
use denote.Triple.Entry.{on_entry}
use denote.Triple.Spec.{Meets, triple_of}
use denote.Triple.Statement.{Contract, Triple}
use denote.Triple.Call.{calls_at}
use denote.Triple.Clauses.{Ended, Clauses, closing, ensured, lasts}
use denote.Triple.Walked.{says, Stays, gave_ref, stay_none, gave_slice, walk_of, AllGo, Goes-none, Goes-gave_ref, Goes-gave_slice, Walks, ends_at, walked, walk_Meets}
use denote.Exit.{Kept, yes}

-- a type with a machine value v has one MIR type, and v is of it
one_typed : (τs : List Ty) (v : Val) → Typed τs (v ∷ []) → T (has_ty (lone τs) v) × WT v
one_typed [] v t = absurd t
one_typed (τ ∷ []) v t = t.0
one_typed (τ ∷ σ ∷ τs) v t = absurd t.1

-- m lifetimes, each of them `'static`, with their tokens, which are had for nothing
abbrev pub statics : (m : ℕ) → Lfts m
statics zero = tt
statics (suc m) = ([], statics m)

abbrev wholes : (m : ℕ) → Shares m
wholes zero = tt
wholes (suc m) = (full_share, wholes m)

never_ends : {M : Type 1} {𝓤 : Ura M} (𝓛 : Logic 𝓤) (m : ℕ) → ent 𝓤 (emp 𝓤) (toks 𝓛 m (statics m) (wholes m))
never_ends {𝓤 = 𝓤} 𝓛 zero = id⊢ 𝓤 (emp 𝓤)
never_ends {𝓤 = 𝓤} 𝓛 (suc m) =
    via 𝓤 (sep 𝓤 (emp 𝓤) (emp 𝓤)) (emp∗ 𝓤 (emp 𝓤)) (mono∗ 𝓤 (𝓛.lfts.lft-nil full_share) (never_ends 𝓛 m))

module _ (R : RattleType) where
  -- what takes the record, the clocks and the bytes, and answers an X: the step at the case, the function at the answer
  module _ (X : RattleType) where
    abbrev play_on_lent : Ended
    play_on_lent = record {
      signature = record {
        lifetimes = 2;
        outlives = [];
        params = mut_ref_to (0 ∷ []) tt (plain (λ _. R)) ∷ plain (λ _. u32) ∷ SliceRefMutOf (1 ∷ []) tt (plain (λ _. u8)) (λ _. tt) ∷ [];
        result = plain (λ _. X);
      };
      kept = (yes, (yes, (yes, tt)));
    }

    abbrev play_on_stays : Stays play_on_lent.signature.params play_on_lent.kept
    play_on_stays = (gave_ref (0 ∷ []) tt (plain (λ _. R)), (stay_none (λ _. u32) yes, (gave_slice (1 ∷ []) tt (plain (λ _. u8)), tt)))

    -- what is said of the record before, the clocks and the bytes lent, and of the record after, the X and the bytes then
    module _ (Says : R.Denot → ℕ → List ℕ → R.Denot → X.Denot → List ℕ → Type 0) {M : Type 1} (𝓤 : Ura M) where
      abbrev play_on_promise : Clauses 𝓤 play_on_lent
      play_on_promise κs a = record { ghost = Unit {0}; requires = λ _. emp 𝓤; ensures = λ _ r e. fact 𝓤 (Says a.0.now a.1.0 a.1.1.0.now e.0.now r e.1.1.0.now) }

      module _ (𝓛 : Logic 𝓤) where
        abbrev pub PlayOnStep : Contract 𝓤
        PlayOnStep = triple_of 𝓛 play_on_lent.signature (closing 𝓛 play_on_lent play_on_promise)

  module _ (E A : RattleType) where
    -- the telling: fn h(outcome: E) -> A
    module _ (m : ℕ) (k : Kept) where
      abbrev told_on : Ended
      told_on = record {
        signature = record { lifetimes = m; outlives = []; params = plain (λ _. E) ∷ []; result = plain (λ _. A) };
        kept = (k, tt);
      }

      -- what the telling wants of its lifetimes, and what it says of the case and the answer
      module _ {M : Type 1} (𝓤 : Ura M) (Wants : Lfts m → SProp 𝓤) (Tells : E.Denot → A.Denot → Type 0) where
        abbrev told_on_promise : Clauses 𝓤 told_on
        told_on_promise κs a = record { ghost = Unit {0}; requires = λ _. Wants κs; ensures = λ _ r e. fact 𝓤 (Tells a.0 r) }

        module _ (𝓛 : Logic 𝓤) where
          abbrev pub TellOnStep : Contract 𝓤
          TellOnStep = triple_of 𝓛 told_on.signature (closing 𝓛 told_on told_on_promise)

    abbrev play_on_code : Callee → Callee → Fn
    play_on_code g h = record {
      lifetimes = 2;
      outlives = [];
      ty_params = [];
      givens = 0;
      params = 3;
      locals = local (lone A.mir) value_local ∷ local (ty_ref (named 0) mut (pointee R.written)) value_local ∷ local (ty_int w32) value_local ∷ local (slice_ty (ty_ref (named 1) mut (ty_int w8))) value_local
          ∷ local (lone E.mir) value_local ∷ local (ty_ref erased mut (pointee R.written)) value_local ∷ local (ty_ref erased mut (ty_int w8)) value_local ∷ local (slice_ty (ty_ref erased mut (ty_int w8))) value_local ∷ [];
      body = seq (assign (place 5 []) (addr_of (place 1 (deref (lone R.mir) ∷ []))))
          (seq (assign (place 6 []) (addr_of (place 3 (field 0 ∷ deref (ty_int w8) ∷ []))))
          (seq (assign (place 7 []) (aggregate (copy (place 6 []) ∷ copy (place 3 (field 1 ∷ [])) ∷ [])))
          (seq (call g (copy (place 5 []) ∷ copy (place 2 []) ∷ copy (place 7 []) ∷ []) (place 4 []))
          (seq (call h (copy (place 4 []) ∷ []) (place 0 [])) return))));
    }

    module _ (Says : R.Denot → ℕ → List ℕ → R.Denot → E.Denot → List ℕ → Type 0) (Tells : E.Denot → A.Denot → Type 0) (Claims : R.Denot → ℕ → List ℕ → R.Denot → A.Denot → List ℕ → Type 0)
        (so : (before : R.Denot) (n : ℕ) (lent : List ℕ) (after : R.Denot) (case : E.Denot) (answer : A.Denot) (now : List ℕ) → Says before n lent after case now → Tells case answer → Claims before n lent after answer now)
        (m : ℕ) (k : Kept) (g h : Callee) {M : Type 1} {𝓤 : Ura M} (Wants : Lfts m → SProp 𝓤) (𝓛 : Logic 𝓤)
        (κ κ' : Lft) (q q' : Share) (b o : ℕ) (γ : GName) (d : R.Denot) (n : ℕ) (n_fits : n < 2 ^ 32) (b' o' : ℕ) (γ' : GName) (s : List ℕ) (room : Room u8 (length s)) where
      open 𝓛 use {H}

      abbrev lent : MutBor (List ℕ)
      lent = record { ref_ptr = (b', o'); ghost_name = γ'; now = s }

      abbrev play_on_args : MutBor R.Denot × (ℕ × (MutBor (List ℕ) × Unit {0}))
      play_on_args = (record { ref_ptr = (b, o); ghost_name = γ; now = d }, (n, (lent, tt)))

      abbrev slice : Val
      slice = slice_val (b', o') (length s)

      abbrev play_on_vals : List Val × (List Val × (List Val × Unit {0}))
      play_on_vals = (vptr b o ∷ [], (vint w32 n ∷ [], (slice ∷ [], tt)))

      abbrev PlayOnEnd : Val → SProp 𝓤
      PlayOnEnd = (walk_of 𝓛 (play_on_lent A) (play_on_stays A) (play_on_promise A Claims 𝓤)).post (((κ, (κ', tt)), (q, (q', tt)), tt, play_on_args, play_on_vals), tt)

      -- the record lent and the bytes lent, once the step is done with them: their last values, and the loans, closed
      abbrev record_back : R.Denot → Fml
      record_back d' = fsep (fres γ (R.coded.code d')) (fbor κ (Body (mem R) b o γ))

      abbrev bytes_back : List ℕ → Fml
      bytes_back s' = fsep (finally u8 γ' s') (fbor κ' (Body (Arr (Holey (mem u8)) (length s)) b' o' γ'))

      play_on_ends : (after : R.Denot) (answer : A.Denot) (v : Val) (s' : List ℕ) → Claims d n s after answer s' → length s' ≡ length s
          → ent 𝓤 (⋆ 𝓛 (‵ (A.own_val answer (v ∷ [])) ∷ (‵ (flft κ q) ⊛ ‵ (flft κ' q') ⊛ ‵ ftrue) ∷ ‵ (bytes_back s') ∷ ‵ (record_back after) ∷ [])) (PlayOnEnd v)
      play_on_ends after answer v s' e l =
          qed 𝓛 (‵ (A.own_val answer (v ∷ [])) ∷ (‵ (flft κ q) ⊛ ‵ (flft κ' q') ⊛ ‵ ftrue) ∷ ‵ (bytes_back s') ∷ ‵ (record_back after) ∷ []) ∵
          suffices ! _ (ends_at 𝓛 (play_on_lent A) (play_on_stays A) (play_on_promise A Claims 𝓤) (((κ, (κ', tt)), (q, (q', tt)), tt, play_on_args, play_on_vals), tt) v answer (after, (tt, (s', tt))) (tt, (tt, (l, tt)))) $
          says ! e $ move ! (1 ∷ []) $ frame ! $ nothing ! $ move ! (2 ∷ 0 ∷ []) $ fjoin ! $
          owned ! u32 (Is u32) (uint_Makes 𝓛 w32) n _ (refl, n_fits) $ fjoin ! $ move ! (2 ∷ 0 ∷ []) $ fjoin ! $ done !

      -- the call: the record and the bytes go on to the step as they were lent, at the same lifetimes and under the same names
      abbrev play_on_given : (PlayOnStep E Says 𝓤 𝓛).Ghost
      play_on_given = (((κ, (κ', tt)), (q, (q', tt)), tt, play_on_args, play_on_vals), tt)

      play_on_gives : ent 𝓤 (⋆ 𝓛 ((‵ (flft κ q) ⊛ ‵ (flft κ' q') ⊛ ‵ ftrue) ∷ ‵ (owns (MutRef (named 0) κ R ∷ u32 ∷ MutSlice (named 1) κ' u8 ∷ []) play_on_args play_on_vals) ∷ [])) ((PlayOnStep E Says 𝓤 𝓛).pre play_on_given)
      play_on_gives =
          qed 𝓛 ((‵ (flft κ q) ⊛ ‵ (flft κ' q') ⊛ ‵ ftrue) ∷ ‵ (owns (MutRef (named 0) κ R ∷ u32 ∷ MutSlice (named 1) κ' u8 ∷ []) play_on_args play_on_vals) ∷ []) ∵ join ! $ frame ! $ done !

      -- the telling, at lifetimes that never end: what it is given, and what is known of the answer that it gives
      abbrev Telling : Contract 𝓤
      Telling = TellOnStep m k 𝓤 Wants Tells 𝓛

      abbrev told_given : E.Denot → Val → Telling.Ghost
      told_given case w = ((statics m, wholes m, tt, (case, tt), (w ∷ [], tt)), tt)

      told_gives : ent 𝓤 (emp 𝓤) (Wants (statics m)) → (case : E.Denot) (w : Val) → ent 𝓤 (sem 𝓛 (E.own_val case (w ∷ []))) (Telling.pre (told_given case w))
      told_gives wanted case w =
          qed 𝓛 (‵ (E.own_val case (w ∷ [])) ∷ []) ∵ nothing ! $ move ! (1 ∷ 0 ∷ []) $ fjoin ! $
          use0 𝓛 (raw (toks 𝓛 m (statics m) (wholes m))) (never_ends 𝓛 m) $ join ! $ frame ! $ use0 𝓛 (raw (Wants (statics m))) wanted $ done !

      told_learns : (case : E.Denot) (answer : A.Denot) → ent 𝓤 (ensured 𝓛 (told_on m k) (told_on_promise m k 𝓤 Wants Tells) (statics m) (case, tt) tt answer) (fact 𝓤 (Tells case answer))
      told_learns case answer = ex_e 𝓤 _ (λ ws. snd∗ 𝓤 (sem 𝓛 (lasts (told_on m k) (statics m) (case, tt) ws)) (fact 𝓤 (Tells case answer)))

      module _ (wanted : ent 𝓤 (emp 𝓤) (Wants (statics m))) (case_laws : Lawful 𝓛 E) (answer_laws : Lawful 𝓛 A)
          (C : Calls 𝓤 H) (Λ : Loops 𝓤 H) (fm : FmC 𝓤 H 𝓛.laws C) (known : Triple 𝓤 (C g) (PlayOnStep E Says 𝓤 𝓛)) (tells : Triple 𝓤 (C h) Telling) where
        play_on_walk : ent 𝓤 (on_entry 𝓛 (play_on_lent A).signature (κ, (κ', tt)) (q, (q', tt)) play_on_args play_on_vals) (WpFn 𝓤 H C Λ (play_on_code g h) (vptr b o ∷ vint w32 n ∷ slice ∷ []) PlayOnEnd)
        play_on_walk =
            qed 𝓛 ((‵ (flft κ q) ⊛ ‵ (flft κ' q') ⊛ ‵ ftrue) ∷ ‵ (owns (MutRef (named 0) κ R ∷ u32 ∷ MutSlice (named 1) κ' u8 ∷ []) play_on_args play_on_vals) ∷ []) ∵
            enter ! C Λ (play_on_code g h) (vptr b o ∷ vint w32 n ∷ slice ∷ []) _ $
            alloc1 ! (λ l₀. alloc1 ! (λ l₁. alloc1 ! (λ l₂. alloc1 ! (λ l₃. alloc1 ! (λ l₄. alloc1 ! (λ l₅. alloc1 ! (λ l₆. alloc1 ! (λ l₇. alloc0 ! $ params1 ! $
            pass1 ! (init ! 12 refl (tt, tt)) $ pass1 ! (init ! 10 refl (tt, record { fits = n_fits })) $ pass1 ! (init ! 8 refl (tt, (tt, (record { fits = room.0 }, tt)))) $ pass0 ! $
            -- [_7, .. _1; room for _0; the tokens; the loans and the clocks]: pass the record and the bytes on
            assigns ! (addr ! (from ! (hop ! (look ! 12 refl) (stop !)))) (from ! (stop !)) (init ! 4 refl (tt, tt)) $
            assigns ! (addr ! (from ! (fld ! refl (hop ! (look_in ! 8 (sub ! 0 refl (whole !))) (stop !))))) (from ! (stop !)) (init ! 2 refl (tt, tt)) $
            assigns ! (agg ! (and_then ! (load ! (from ! (stop !)) (look ! 2 refl)) (and_then ! (load ! (from ! (fld ! refl (stop !))) (look_in ! 8 (sub ! 1 refl (whole !)))) (no_more !)))) (from ! (stop !)) (init ! 0 refl (tt, (tt, (record { fits = room.0 }, tt)))) $
            -- the step
            move ! (16 ∷ 17 ∷ []) $ use2 𝓛 (raw ((PlayOnStep E Says 𝓤 𝓛).pre play_on_given)) play_on_gives $
            calls_at ! fm (PlayOnStep E Says 𝓤 𝓛) known play_on_given (and_then ! (load ! (from ! (stop !)) (look ! 5 refl)) (and_then ! (load ! (from ! (stop !)) (look ! 11 refl)) (and_then ! (load ! (from ! (stop !)) (look ! 1 refl)) (no_more !)))) (λ w.
            use1 𝓛 (later (some (λ (r : E.Denot). ((‵ (flft κ q) ⊛ ‵ (flft κ' q') ⊛ ‵ ftrue) ⊛ ‵ (E.own_val r (w ∷ []))) ⊛ raw (ensured 𝓛 (play_on_lent E) (play_on_promise E Says 𝓤) (κ, (κ', tt)) play_on_args tt r)))) (id⊢ 𝓤 _) $
            await ! tt $ pick ! (λ r. split ! $ move ! (1 ∷ []) $
            use1 𝓛 (some (λ (ss : R.Denot × (Unit {0} × (List ℕ × Unit {0}))). ‵ (lasts (play_on_lent E) (κ, (κ', tt)) play_on_args ss) ⊛ raw (fact 𝓤 (Says d n s ss.0 r ss.1.1.0)))) (id⊢ 𝓤 _) $ pick ! (λ ss.
            split ! $ move ! (1 ∷ []) $ heard ! (Says d n s ss.0 r ss.1.1.0) (λ e.
            fsplit ! $ move ! (1 ∷ []) $ fsplit ! $ drop ! $ fsplit ! $ fsplit ! $ fsplit ! $ move ! (1 ∷ []) $ feq_l ! (λ l. fjoin ! $
            move ! (3 ∷ []) $ split ! $ move ! (1 ∷ []) $ peeks ! E (Is E) (shows 𝓛 E) r (w ∷ []) (λ is.
            land ! (from ! (stop !)) (init ! 11 refl (one_typed E.mir w (case_laws.typed r (w ∷ []) is))) $
            -- [the case; the tokens; the bytes at last; ..; the record at last; _7, .. _1; room for _0]
            -- the telling, given the case
            use1 𝓛 (raw (Telling.pre (told_given r w))) (told_gives wanted r w) $
            calls_at ! fm Telling tells (told_given r w) (and_then ! (load ! (from ! (stop !)) (look ! 11 refl)) (no_more !)) (λ v.
            use1 𝓛 (later (some (λ (a : A.Denot). (raw (toks 𝓛 m (statics m) (wholes m)) ⊛ ‵ (A.own_val a (v ∷ []))) ⊛ raw (ensured 𝓛 (told_on m k) (told_on_promise m k 𝓤 Wants Tells) (statics m) (r, tt) tt a)))) (id⊢ 𝓤 _) $
            await ! tt $ pick ! (λ a. split ! $ move ! (1 ∷ []) $
            use1 𝓛 (raw (fact 𝓤 (Tells r a))) (told_learns r a) $ heard ! (Tells r a) (λ t. split ! $ drop ! $
            peeks ! A (Is A) (shows 𝓛 A) a (v ∷ []) (λ tells_so.
            land ! (from ! (stop !)) (init ! 19 refl (one_typed A.mir v (answer_laws.typed a (v ∷ []) tells_so))) $
            -- [the answer; the tokens; the bytes at last; ..; the record at last; _7, .. _0]
            returns ! (look ! 19 refl) $ forget ! 5 refl $ forget ! 7 refl $ forget ! 9 refl $ forget ! 11 refl $ forget ! 13 refl $ forget ! 15 refl $ forget ! 17 refl $ forget ! 19 refl $
            move ! (19 ∷ 20 ∷ []) $ free1 ! $ move ! (17 ∷ 18 ∷ []) $ free1 ! $ move ! (15 ∷ 16 ∷ []) $ free1 ! $ move ! (13 ∷ 14 ∷ []) $ free1 ! $
            move ! (11 ∷ 12 ∷ []) $ free1 ! $ move ! (9 ∷ 10 ∷ []) $ free1 ! $ move ! (7 ∷ 8 ∷ []) $ free1 ! $ move ! (5 ∷ 6 ∷ []) $ free1 ! $ free0 ! $
            keep ! (0 ∷ 1 ∷ 2 ∷ 4 ∷ []) $ by ! (play_on_ends ss.0 a v ss.1.1.0 (so d n s ss.0 r a ss.1.1.0 e t) l)))))))))))))))))))

    module _ (Says : R.Denot → ℕ → List ℕ → R.Denot → E.Denot → List ℕ → Type 0) (Tells : E.Denot → A.Denot → Type 0) (Claims : R.Denot → ℕ → List ℕ → R.Denot → A.Denot → List ℕ → Type 0)
        (so : (before : R.Denot) (n : ℕ) (lent : List ℕ) (after : R.Denot) (case : E.Denot) (answer : A.Denot) (now : List ℕ) → Says before n lent after case now → Tells case answer → Claims before n lent after answer now)
        (m : ℕ) (k : Kept) (g h : Callee) {M : Type 1} {𝓤 : Ura M} (Wants : Lfts m → SProp 𝓤) (wanted : ent 𝓤 (emp 𝓤) (Wants (statics m))) (𝓛 : Logic 𝓤) (case_laws : Lawful 𝓛 E) (answer_laws : Lawful 𝓛 A) where
      open 𝓛 use {H}

      play_on_walks : (C : Calls 𝓤 H) (Λ : Loops 𝓤 H) → FmC 𝓤 H 𝓛.laws C → Triple 𝓤 (C g) (PlayOnStep E Says 𝓤 𝓛) → Triple 𝓤 (C h) (TellOnStep m k 𝓤 Wants Tells 𝓛)
          → Walks 𝓛 (play_on_lent A) (play_on_stays A) (WpFn 𝓤 H C Λ (play_on_code g h)) (play_on_promise A Claims 𝓤)
      play_on_walks C Λ fm known tells =
          walked 𝓛 (play_on_lent A) (play_on_stays A) (play_on_promise A Claims 𝓤) (WpFn 𝓤 H C Λ (play_on_code g h)) (λ κs. (mut_vals, (uint_vals w32, (mut_slice_vals, tt))))
          (λ κs. (mut_Tells (named 0) κs.0 R, (uint_Tells w32, (mut_slice_Tells (named 1) κs.1.0 u8, tt))))
          (λ κs qs bounds a _ are. via 𝓤 _ (fst∗ 𝓤 _ (emp 𝓤))
          (play_on_walk Says Tells Claims so m k g h Wants 𝓛 κs.0 κs.1.0 qs.0 qs.1.0 a.0.ref_ptr.0 a.0.ref_ptr.1 a.0.ghost_name a.0.now a.1.0 are.1.0.1
          a.1.1.0.ref_ptr.0 a.1.1.0.ref_ptr.1 a.1.1.0.ghost_name a.1.1.0.now are.1.1.0.0.1 wanted case_laws answer_laws C Λ fm known tells))

      play_on_goes : AllGo 𝓛 2 (play_on_lent A).signature.params (play_on_lent A).kept (play_on_stays A)
      play_on_goes = (Goes-gave_ref 𝓛 2 0 tt (plain (λ _. R)), (Goes-none 𝓛 2 (λ _. u32) yes (λ κs x f. refl), (Goes-gave_slice 𝓛 2 1 tt (plain (λ _. u8)), tt)))

      -- A play by loans handed on keeps its promise where its step and the telling do, and their promises are enough for it.
      pub play_on_meets : (𝓣 : Tables 𝓤 H) → Triple 𝓤 (𝓣.C g) (PlayOnStep E Says 𝓤 𝓛) → Triple 𝓤 (𝓣.C h) (TellOnStep m k 𝓤 Wants Tells 𝓛)
          → Meets 𝓛 (play_on_lent A).signature (WpFn 𝓤 H 𝓣.C 𝓣.Λ (play_on_code g h)) (closing 𝓛 (play_on_lent A) (play_on_promise A Claims 𝓤))
      play_on_meets 𝓣 known tells =
          walk_Meets 𝓛 (play_on_lent A) (play_on_stays A) play_on_goes (play_on_promise A Claims 𝓤) (WpFn 𝓤 H 𝓣.C 𝓣.Λ (play_on_code g h)) (WpFn-mono 𝓤 H 𝓛.laws 𝓣 (play_on_code g h))
          (play_on_walks 𝓣.C 𝓣.Λ (fm_of 𝓤 H 𝓛.laws 𝓣) known tells)
