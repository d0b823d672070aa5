-- A play over the DAC's running record that a host lends: as a write (Write.antt), with the clocks asked for, the bytes lent, which go on to the step, and
-- the step's case, which a second function tells in numbers.
--     fn f(d: &mut Dac, clocks: u32, s: &mut [u8]) -> Answer { let before = *d; let played = g(before, clocks, s); *d = played.after; let case = played.answer; h(case) }
-- Assumes nothing.
use mathlib.Core.Path.{◌≡◌, refl, ap}
use Prim.Native.Nat.{ℕ, ◌<◌, ◌^◌}
use mathlib.Core.List.{[], ◌∷◌, List}
use lib.ListN.{length}
use seplogic.Ra.Ura.{Ura}
use base.Fraction.{full_share}
use mir.Syntax.{Callee, Fn, local, value_local, place, copy, rv_opd, assign, aggregate, addr_of, field, erased, call, seq, return, deref, mut, ty_ref, ty_int, named, w8, w32}
use mir.Val.{Val, vint, vptr}
use base.Logic.{SProp, ent, emp, via, fst∗, snd∗, ex_e, id⊢}
use base.Fml.{Fml, GName, Lft, Share, ftrue, fat, fsep, flft, fobs, fbor}
use prog.Wp.{Calls, Loops, WpFn, Tables}
use types.Logic.{Logic, sem}
use contract.Monad.{fact}
use types.Kit.{‵, raw, some, later, ◌⊛◌, ⋆, ◌$◌, ◌∵◌, !, qed, by, move, keep, drop, use1, use3, split, join, pick, rewrite, feq_l, fsplit, fsplit3, fjoin, fjoin3, feq_i, suffices, frame, await, done}
use types.Run.{look, look_raw, addr, fld, init, store_raw, forget, stop, hop, from, load, of_opd, and_then, no_more, assigns, land, returns, enter, alloc1, alloc0, params1, pass1, pass0, free1, free0}
use types.Part.{agg, whole, sub, look_in}
use types.SemTy.{Body, Arr}
use types.Hole.{Holey}
use sound.WpLaws.{FmC, fm_of, WpFn-mono}
use denote.RattleType.{RattleType, owns}
use denote.Laws.{Is, shows}
use denote.Memory.{mem, pointee}
use denote.Plain.{uint_vals, uint_Tells, uint_Makes}
use denote.Builtin.{u8, u32, RefMutOf, SliceRefMutOf}
use denote.Ref.{MutBor, MutRef, mut_vals, mut_Tells}
use denote.Slice.{slice_ty, slice_val, mut_slice_vals, MutSlice, Room, finally, mut_slice_Tells}
use denote.Signature.{plain}
use denote.Steps.{only, opens, closes, owned, peeks, heard, nothing}
use denote.Struct.Steps.{spelt}
use denote.Struct.Laws as LL
use denote.Triple.Entry.{on_entry}
use denote.Triple.Spec.{Meets, triple_of}
use denote.Triple.Statement.{Contract, Triple}
use denote.Triple.Call.{calls_at}
use denote.Triple.Clauses.{Ended, Clauses, closing, ensured, lasts}
use denote.Triple.Walked.{says, Stays, stay_ref, stay_none, gave_slice, walk_of, AllGo, Goes-none, Goes-ref, Goes-gave_slice, Walks, ends_at, walked, walk_Meets}
use denote.Exit.{yes}
use denote.Enum.Laws as EL
use Rattle.dac.specs.declared.Dac.{Dac}
use Rattle.lent.specs.declared.Played.{Played}
use Rattle.lent.specs.declared.Outcome.{Outcome}
use Rattle.answer.specs.declared.Answer.{Answer}
use Rattle.dac.specs.contracts.Dac as T
use Rattle.dac.proofs.Dac.TheLaws as T'
use Rattle.lent.specs.contracts.Outcome as S
use Rattle.lent.proofs.Outcome.TheLaws as S'
use Rattle.lent.specs.contracts.Played as E
use Rattle.lent.proofs.Played.TheLaws as E'
use Rattle.answer.specs.contracts.Answer as P
use Rattle.answer.proofs.Answer.TheLaws as P'

-- the record as a type of the logic, and as the machine's value, alone and as a list
abbrev R : RattleType
R = T.the_row

abbrev held : Dac → Val
held d = LL.val T.the_type T'.the_laws d

abbrev held_as : Dac → List Val
held_as d = LL.vals T.the_type T'.the_laws d

abbrev play_lent : Ended
play_lent = record {
  signature = record {
    lifetimes = 2;
    outlives = [];
    params = RefMutOf (0 ∷ []) tt (plain (λ _. R)) (λ _. tt) ∷ plain (λ _. u32) ∷ SliceRefMutOf (1 ∷ []) tt (plain (λ _. u8)) (λ _. tt) ∷ [];
    result = plain (λ _. P.the_row);
  };
  kept = (yes, (yes, (yes, tt)));
}

abbrev play_step : Ended
play_step = record {
  signature = record {
    lifetimes = 1;
    outlives = [];
    params = plain (λ _. R) ∷ plain (λ _. u32) ∷ SliceRefMutOf (0 ∷ []) tt (plain (λ _. u8)) (λ _. tt) ∷ [];
    result = plain (λ _. S.the_row);
  };
  kept = (yes, (yes, (yes, tt)));
}

-- the telling: fn h(case: Played) -> Answer
abbrev tell_step : Ended
tell_step = record {
  signature = record { lifetimes = 0; outlives = []; params = plain (λ _. E.the_row) ∷ []; result = plain (λ _. P.the_row) };
  kept = (yes, tt);
}

abbrev play_stays : Stays play_lent.signature.params play_lent.kept
play_stays = (stay_ref (0 ∷ []) tt (plain (λ _. R)), (stay_none (λ _. u32) yes, (gave_slice (1 ∷ []) tt (plain (λ _. u8)), tt)))

abbrev play_code : Callee → Callee → Fn
play_code g h = record {
  lifetimes = 2;
  outlives = [];
  ty_params = [];
  givens = 0;
  params = 3;
  locals = local P'.mir value_local ∷ local (ty_ref (named 0) mut (pointee R.written)) value_local ∷ local (ty_int w32) value_local ∷ local (slice_ty (ty_ref (named 1) mut (ty_int w8))) value_local
      ∷ local T'.mir value_local ∷ local S'.mir value_local ∷ local E'.mir value_local ∷ local (ty_ref erased mut (ty_int w8)) value_local ∷ local (slice_ty (ty_ref erased mut (ty_int w8))) value_local ∷ local T'.mir value_local ∷ [];
  body = seq (assign (place 4 []) (rv_opd (copy (place 1 (deref T'.mir ∷ [])))))
      (seq (assign (place 7 []) (addr_of (place 3 (field 0 ∷ deref (ty_int w8) ∷ []))))
      (seq (assign (place 8 []) (aggregate (copy (place 7 []) ∷ copy (place 3 (field 1 ∷ [])) ∷ [])))
      (seq (call g (copy (place 4 []) ∷ copy (place 2 []) ∷ copy (place 8 []) ∷ []) (place 5 []))
      (seq (assign (place 9 []) (rv_opd (copy (place 5 (field 0 ∷ [])))))
      (seq (assign (place 1 (deref T'.mir ∷ [])) (rv_opd (copy (place 9 []))))
      (seq (assign (place 6 []) (rv_opd (copy (place 5 (field 1 ∷ [])))))
      (seq (call h (copy (place 6 []) ∷ []) (place 0 [])) return)))))));
}

-- what the function says of the record before, the clocks and the bytes lent, and of the record after, the answer and the bytes then
module _ (Claims : Dac → ℕ → List ℕ → Dac → Answer → List ℕ → Type 0) {M : Type 1} (𝓤 : Ura M) where
  abbrev play_promise : Clauses 𝓤 play_lent
  play_promise κs a = record { ghost = Unit {0}; requires = λ _. emp 𝓤; ensures = λ _ r e. fact 𝓤 (Claims a.0.now a.1.0 a.1.1.0.now e.0.now r e.1.1.0.now) }

-- the same, by the step, with the case in the answer's place
module _ (Says : Dac → ℕ → List ℕ → Dac → Played → List ℕ → Type 0) {M : Type 1} (𝓤 : Ura M) where
  abbrev play_step_promise : Clauses 𝓤 play_step
  play_step_promise κs a = record { ghost = Unit {0}; requires = λ _. emp 𝓤; ensures = λ _ r e. fact 𝓤 (Says a.0 a.1.0 a.1.1.0.now r.after r.answer e.1.1.0.now) }

  module _ (𝓛 : Logic 𝓤) where
    abbrev pub PlayStep : Contract 𝓤
    PlayStep = triple_of 𝓛 play_step.signature (closing 𝓛 play_step play_step_promise)

-- what the telling says of the case and the answer
module _ (Tells : Played → Answer → Type 0) {M : Type 1} (𝓤 : Ura M) where
  abbrev tell_step_promise : Clauses 𝓤 tell_step
  tell_step_promise κs a = record { ghost = Unit {0}; requires = λ _. emp 𝓤; ensures = λ _ r e. fact 𝓤 (Tells a.0 r) }

  module _ (𝓛 : Logic 𝓤) where
    abbrev pub TellStep : Contract 𝓤
    TellStep = triple_of 𝓛 tell_step.signature (closing 𝓛 tell_step tell_step_promise)

module _ (Says : Dac → ℕ → List ℕ → Dac → Played → List ℕ → Type 0) (Tells : Played → Answer → Type 0) (Claims : Dac → ℕ → List ℕ → Dac → Answer → List ℕ → Type 0)
    (so : (before : Dac) (n : ℕ) (lent : List ℕ) (after : Dac) (case : Played) (answer : Answer) (now : List ℕ) → Says before n lent after case now → Tells case answer → Claims before n lent after answer now)
    (g h : Callee) {M : Type 1} {𝓤 : Ura M} (𝓛 : Logic 𝓤)
    (κ κ' : Lft) (q q' : Share) (b o : ℕ) (γ : GName) (d : Dac) (n : ℕ) (n_fits : n < 2 ^ 32) (b' o' : ℕ) (γ' : GName) (s : List ℕ) (room : Room u8 (length s)) where
  open 𝓛 use {H}

  abbrev lent : MutBor (List ℕ)
  lent = record { ref_ptr = (b', o'); ghost_name = γ'; now = s }

  abbrev play_args : MutBor Dac × (ℕ × (MutBor (List ℕ) × Unit {0}))
  play_args = (record { ref_ptr = (b, o); ghost_name = γ; now = d }, (n, (lent, tt)))

  abbrev slice : Val
  slice = slice_val (b', o') (length s)

  abbrev play_vals : List Val × (List Val × (List Val × Unit {0}))
  play_vals = (vptr b o ∷ [], (vint w32 n ∷ [], (slice ∷ [], tt)))

  abbrev PlayEnd : Val → SProp 𝓤
  PlayEnd = (walk_of 𝓛 play_lent play_stays (play_promise Claims 𝓤)).post (((κ, (κ', tt)), (q, (q', tt)), tt, play_args, play_vals), tt)

  -- the bytes lent, once the step is done with them: their last values, and the loan, closed
  abbrev given_back : List ℕ → Fml
  given_back s' = fsep (finally u8 γ' s') (fbor κ' (Body (Arr (Holey (mem u8)) (length s)) b' o' γ'))

  play_ends : (after : Dac) (answer : Answer) (v : Val) (s' : List ℕ) → Claims d n s after answer s' → length s' ≡ length s → Is P.the_row answer (v ∷ [])
      → ent 𝓤 (⋆ 𝓛 (‵ (fobs γ (R.coded.code after)) ∷ ‵ (fbor κ (Body (mem R) b o γ)) ∷ ‵ (flft κ q) ∷ (‵ (flft κ' q') ⊛ ‵ ftrue) ∷ ‵ (given_back s') ∷ [])) (PlayEnd v)
  play_ends after answer v s' e l is =
      qed 𝓛 (‵ (fobs γ (R.coded.code after)) ∷ ‵ (fbor κ (Body (mem R) b o γ)) ∷ ‵ (flft κ q) ∷ (‵ (flft κ' q') ⊛ ‵ ftrue) ∷ ‵ (given_back s') ∷ []) ∵
      suffices ! _ (ends_at 𝓛 play_lent play_stays (play_promise Claims 𝓤) (((κ, (κ', tt)), (q, (q', tt)), tt, play_args, play_vals), tt) v answer (after, (tt, (s', tt))) (tt, (tt, (l, tt)))) $
      says ! e $ move ! (2 ∷ 3 ∷ []) $ join ! $ frame ! $
      feq_i ! (List Val) (vptr b o ∷ []) (vptr b o ∷ []) refl $ fjoin3 ! $ nothing ! $ move ! (2 ∷ 0 ∷ []) $ fjoin ! $
      owned ! u32 (Is u32) (uint_Makes 𝓛 w32) n _ (refl, n_fits) $ fjoin ! $ move ! (1 ∷ 0 ∷ []) $ fjoin ! $
      owned ! P.the_row (Is P.the_row) (LL.makes P.the_type P'.the_plain 𝓛) answer _ is $ move ! (1 ∷ 0 ∷ []) $ done !

  -- the call: the bytes go on to the step as they were lent, at the same lifetime and under the same name
  abbrev play_given : (PlayStep Says 𝓤 𝓛).Ghost
  play_given = (((κ', tt), (q', tt), tt, (d, (n, (lent, tt))), (held d ∷ [], (vint w32 n ∷ [], (slice ∷ [], tt)))), tt)

  play_gives : ent 𝓤 (⋆ 𝓛 ((‵ (flft κ' q') ⊛ ‵ ftrue) ∷ ‵ ((MutSlice (named 0) κ' u8).own_val lent (slice ∷ [])) ∷ ‵ (R.own_val d (held d ∷ [])) ∷ [])) ((PlayStep Says 𝓤 𝓛).pre play_given)
  play_gives =
      qed 𝓛 ((‵ (flft κ' q') ⊛ ‵ ftrue) ∷ ‵ ((MutSlice (named 0) κ' u8).own_val lent (slice ∷ [])) ∷ ‵ (R.own_val d (held d ∷ [])) ∷ []) ∵
      nothing ! $ move ! (2 ∷ 0 ∷ []) $ fjoin ! $ owned ! u32 (Is u32) (uint_Makes 𝓛 w32) n _ (refl, n_fits) $ fjoin ! $
      move ! (2 ∷ 0 ∷ []) $ fjoin ! $ move ! (1 ∷ 0 ∷ []) $ join ! $ frame ! $ done !

  -- the two parts of what the step gives
  after_is : (r : Outcome) (w : Val) → Is S.the_row r (w ∷ []) → Is R r.after (held_as r.after)
  after_is r w is = (LL.owed S.the_type S'.the_laws r _ is).0

  case_is : (r : Outcome) (w : Val) → Is S.the_row r (w ∷ []) → Is E.the_row r.answer (EL.vals E.the_type E'.the_laws r.answer)
  case_is r w is = (LL.owed S.the_type S'.the_laws r _ is).1.0

  -- the telling: what it is given, and what is known of the answer that it gives
  abbrev tell_given : Played → (TellStep Tells 𝓤 𝓛).Ghost
  tell_given case = ((tt, tt, tt, (case, tt), (EL.vals E.the_type E'.the_laws case, tt)), tt)

  tell_gives : (case : Played) → ent 𝓤 (sem 𝓛 ((E.the_row).own_val case (EL.vals E.the_type E'.the_laws case))) ((TellStep Tells 𝓤 𝓛).pre (tell_given case))
  tell_gives case =
      qed 𝓛 (‵ ((E.the_row).own_val case (EL.vals E.the_type E'.the_laws case)) ∷ []) ∵ nothing ! $ move ! (1 ∷ 0 ∷ []) $ fjoin ! $ nothing ! $ join ! $ frame ! $ done !

  tell_learns : (case : Played) (answer : Answer) → ent 𝓤 (ensured 𝓛 tell_step (tell_step_promise Tells 𝓤) tt (case, tt) tt answer) (fact 𝓤 (Tells case answer))
  tell_learns case answer = ex_e 𝓤 _ (λ ws. snd∗ 𝓤 (sem 𝓛 (lasts tell_step tt (case, tt) ws)) (fact 𝓤 (Tells case answer)))

  module _ (C : Calls 𝓤 H) (Λ : Loops 𝓤 H) (fm : FmC 𝓤 H 𝓛.laws C) (known : Triple 𝓤 (C g) (PlayStep Says 𝓤 𝓛)) (tells : Triple 𝓤 (C h) (TellStep Tells 𝓤 𝓛)) where
    play_walk : ent 𝓤 (on_entry 𝓛 play_lent.signature (κ, (κ', tt)) (q, (q', tt)) play_args play_vals) (WpFn 𝓤 H C Λ (play_code g h) (vptr b o ∷ vint w32 n ∷ slice ∷ []) PlayEnd)
    play_walk =
        qed 𝓛 ((‵ (flft κ q) ⊛ ‵ (flft κ' q') ⊛ ‵ ftrue) ∷ ‵ (owns (MutRef (named 0) κ R ∷ u32 ∷ MutSlice (named 1) κ' u8 ∷ []) play_args play_vals) ∷ []) ∵
        split ! $ move ! (2 ∷ []) $ fsplit ! $ fsplit3 ! $ drop ! $ move ! (2 ∷ []) $ fsplit ! $ drop ! $ fsplit ! $ move ! (2 ∷ 3 ∷ 4 ∷ 5 ∷ 0 ∷ []) $
        -- [what the host will see; the loan; its token; the bytes' token; the bytes; ..]
        enter ! C Λ (play_code g h) (vptr b o ∷ vint w32 n ∷ slice ∷ []) _ $
        alloc1 ! (λ l₀. alloc1 ! (λ l₁. alloc1 ! (λ l₂. alloc1 ! (λ l₃. alloc1 ! (λ l₄. alloc1 ! (λ l₅. alloc1 ! (λ l₆. alloc1 ! (λ l₇. alloc1 ! (λ l₈. alloc1 ! (λ l₉. alloc0 ! $ params1 ! $
        pass1 ! (init ! 16 refl (tt, tt)) $ pass1 ! (init ! 14 refl (tt, record { fits = n_fits })) $ pass1 ! (init ! 12 refl (tt, (tt, (record { fits = room.0 }, tt)))) $ pass0 ! $
        -- open the loan, copy the record out, and pass the bytes on
        move ! (20 ∷ 21 ∷ 22 ∷ []) $ opens ! tt R {h = d} b o (λ vs.
        spelt ! R (Is R) (shows 𝓛 R) held_as (LL.tells T.the_type T'.the_laws) full_share d vs b o $
        move ! (1 ∷ []) $ peeks ! R (Is R) (shows 𝓛 R) d (held_as d) (λ was. move ! (1 ∷ 0 ∷ []) $
        -- [the record's memory; the record; the open loan; what the host will see; its other half; _9, .. _1; room for _0; the bytes' token; the bytes]
        assigns ! (of_opd ! (load ! (from ! (hop ! (look ! 21 refl) (stop !))) (look_raw ! 0 refl))) (from ! (stop !)) (init ! 15 refl ((LL.lawful T.the_type T'.the_laws 𝓛).typed d _ was).0) $
        assigns ! (addr ! (from ! (fld ! refl (hop ! (look_in ! 17 (sub ! 0 refl (whole !))) (stop !))))) (from ! (stop !)) (init ! 9 refl (tt, tt)) $
        assigns ! (agg ! (and_then ! (load ! (from ! (stop !)) (look ! 9 refl)) (and_then ! (load ! (from ! (fld ! refl (stop !))) (look_in ! 17 (sub ! 1 refl (whole !)))) (no_more !)))) (from ! (stop !)) (init ! 7 refl (tt, (tt, (record { fits = room.0 }, tt)))) $
        -- the step
        move ! (25 ∷ 26 ∷ 1 ∷ []) $ use3 𝓛 (raw ((PlayStep Says 𝓤 𝓛).pre play_given)) play_gives $
        calls_at ! fm (PlayStep Says 𝓤 𝓛) known play_given (and_then ! (load ! (from ! (stop !)) (look ! 15 refl)) (and_then ! (load ! (from ! (stop !)) (look ! 19 refl)) (and_then ! (load ! (from ! (stop !)) (look ! 7 refl)) (no_more !)))) (λ w.
        use1 𝓛 (later (some (λ (r : Outcome). ((‵ (flft κ' q') ⊛ ‵ ftrue) ⊛ ‵ ((S.the_row).own_val r (w ∷ []))) ⊛ raw (ensured 𝓛 play_step (play_step_promise Says 𝓤) (κ', tt) (d, (n, (lent, tt))) tt r)))) (id⊢ 𝓤 _) $
        await ! tt $ pick ! (λ r. split ! $ move ! (1 ∷ []) $
        use1 𝓛 (some (λ (ss : Unit {0} × (Unit {0} × (List ℕ × Unit {0}))). ‵ (lasts play_step (κ', tt) (d, (n, (lent, tt))) ss) ⊛ raw (fact 𝓤 (Says d n s r.after r.answer ss.1.1.0)))) (id⊢ 𝓤 _) $ pick ! (λ ss.
        split ! $ move ! (1 ∷ []) $ heard ! (Says d n s r.after r.answer ss.1.1.0) (λ e.
        fsplit ! $ drop ! $ fsplit ! $ drop ! $ fsplit ! $ fsplit ! $ fsplit ! $ move ! (1 ∷ []) $ feq_l ! (λ l. fjoin ! $
        move ! (2 ∷ []) $ split ! $ move ! (1 ∷ []) $ peeks ! S.the_row (Is S.the_row) (shows 𝓛 S.the_row) r (w ∷ []) (λ is.
        land ! (from ! (stop !)) (init ! 16 refl ((LL.lawful S.the_type S'.the_laws 𝓛).typed r _ is).0) $
        -- [what the step gave; the bytes' token; the bytes at last; ..; the record's memory; the open loan; ..; _9, ..]: take it apart, copy the record into _9, and store it
        rewrite ! 16 (λ (u : Val). ‵ (fat full_share S'.mir l₅ 0 u)) (ap only (LL.tells S.the_type S'.the_laws r _ is)) refl $
        assigns ! (of_opd ! (load ! (from ! (fld ! refl (stop !))) (look_in ! 16 (sub ! 0 refl (whole !))))) (from ! (stop !)) (init ! 8 refl ((LL.lawful T.the_type T'.the_laws 𝓛).typed r.after _ (after_is r w is)).0) $
        assigns ! (of_opd ! (load ! (from ! (stop !)) (look ! 8 refl))) (from ! (hop ! (look ! 24 refl) (stop !))) (store_raw ! 4 refl ((LL.lawful T.the_type T'.the_laws 𝓛).typed r.after _ (after_is r w is)).0) $
        assigns ! (of_opd ! (load ! (from ! (fld ! refl (stop !))) (look_in ! 16 (sub ! 1 refl (whole !))))) (from ! (stop !)) (init ! 14 refl ((EL.lawful E.the_type E'.the_laws 𝓛 tt).typed r.answer _ (case_is r w is)).0) $
        -- the telling, given the case in the place of what the step gave
        drop ! $ owned ! E.the_row (Is E.the_row) (EL.makes E.the_type E'.the_plain 𝓛) r.answer _ (case_is r w is) $
        use1 𝓛 (raw ((TellStep Tells 𝓤 𝓛).pre (tell_given r.answer))) (tell_gives r.answer) $
        calls_at ! fm (TellStep Tells 𝓤 𝓛) tells (tell_given r.answer) (and_then ! (load ! (from ! (stop !)) (look ! 14 refl)) (no_more !)) (λ v.
        use1 𝓛 (later (some (λ (a : Answer). (‵ ftrue ⊛ ‵ ((P.the_row).own_val a (v ∷ []))) ⊛ raw (ensured 𝓛 tell_step (tell_step_promise Tells 𝓤) tt (r.answer, tt) tt a)))) (id⊢ 𝓤 _) $
        await ! tt $ pick ! (λ a. split ! $ move ! (1 ∷ []) $
        use1 𝓛 (raw (fact 𝓤 (Tells r.answer a))) (tell_learns r.answer a) $ heard ! (Tells r.answer a) (λ t. split ! $ drop ! $
        peeks ! P.the_row (Is P.the_row) (shows 𝓛 P.the_row) a (v ∷ []) (λ tells_so.
        land ! (from ! (stop !)) (init ! 26 refl ((LL.lawful P.the_type P'.the_laws 𝓛).typed a _ tells_so).0) $
        -- [the answer; the bytes' token; the bytes at last; ..; the record's memory; the open loan; ..; _9, ..]: close the loan at the record stored
        drop ! $ owned ! R (Is R) (LL.makes T.the_type T'.the_plain 𝓛) r.after _ (after_is r w is) $
        move ! (4 ∷ 0 ∷ 5 ∷ 6 ∷ 7 ∷ []) $ closes ! tt R r.after (held_as r.after) b o $
        returns ! (look ! 24 refl) $ forget ! 6 refl $ forget ! 8 refl $ forget ! 10 refl $ forget ! 12 refl $ forget ! 14 refl $ forget ! 16 refl $ forget ! 18 refl $ forget ! 20 refl $ forget ! 22 refl $ forget ! 24 refl $
        move ! (24 ∷ 25 ∷ []) $ free1 ! $ move ! (22 ∷ 23 ∷ []) $ free1 ! $ move ! (20 ∷ 21 ∷ []) $ free1 ! $ move ! (18 ∷ 19 ∷ []) $ free1 ! $ move ! (16 ∷ 17 ∷ []) $ free1 ! $ move ! (14 ∷ 15 ∷ []) $ free1 ! $
        move ! (12 ∷ 13 ∷ []) $ free1 ! $ move ! (10 ∷ 11 ∷ []) $ free1 ! $ move ! (8 ∷ 9 ∷ []) $ free1 ! $ move ! (6 ∷ 7 ∷ []) $ free1 ! $ free0 ! $
        keep ! (0 ∷ 1 ∷ 2 ∷ 3 ∷ 4 ∷ []) $ by ! (play_ends r.after a v ss.1.1.0 (so d n s r.after r.answer a ss.1.1.0 e t) l tells_so)))))))))))))))))))))))

module _ (Says : Dac → ℕ → List ℕ → Dac → Played → List ℕ → Type 0) (Tells : Played → Answer → Type 0) (Claims : Dac → ℕ → List ℕ → Dac → Answer → List ℕ → Type 0)
    (so : (before : Dac) (n : ℕ) (lent : List ℕ) (after : Dac) (case : Played) (answer : Answer) (now : List ℕ) → Says before n lent after case now → Tells case answer → Claims before n lent after answer now)
    (g h : Callee) {M : Type 1} {𝓤 : Ura M} (𝓛 : Logic 𝓤) where
  open 𝓛 use {H}

  play_walks : (C : Calls 𝓤 H) (Λ : Loops 𝓤 H) → FmC 𝓤 H 𝓛.laws C → Triple 𝓤 (C g) (PlayStep Says 𝓤 𝓛) → Triple 𝓤 (C h) (TellStep Tells 𝓤 𝓛) → Walks 𝓛 play_lent play_stays (WpFn 𝓤 H C Λ (play_code g h)) (play_promise Claims 𝓤)
  play_walks C Λ fm known tells =
      walked 𝓛 play_lent play_stays (play_promise Claims 𝓤) (WpFn 𝓤 H C Λ (play_code g h)) (λ κs. (mut_vals, (uint_vals w32, (mut_slice_vals, tt))))
      (λ κs. (mut_Tells (named 0) κs.0 R, (uint_Tells w32, (mut_slice_Tells (named 1) κs.1.0 u8, tt))))
      (λ κs qs bounds a _ are. via 𝓤 _ (fst∗ 𝓤 _ (emp 𝓤))
      (play_walk Says Tells Claims so g h 𝓛 κs.0 κs.1.0 qs.0 qs.1.0 a.0.ref_ptr.0 a.0.ref_ptr.1 a.0.ghost_name a.0.now a.1.0 are.1.0.1
      a.1.1.0.ref_ptr.0 a.1.1.0.ref_ptr.1 a.1.1.0.ghost_name a.1.1.0.now are.1.1.0.0.1 C Λ fm known tells))

  play_goes : AllGo 𝓛 2 play_lent.signature.params play_lent.kept play_stays
  play_goes = (Goes-ref 𝓛 2 0 tt (plain (λ _. R)), (Goes-none 𝓛 2 (λ _. u32) yes (λ κs x f. refl), (Goes-gave_slice 𝓛 2 1 tt (plain (λ _. u8)), tt)))

  -- A play keeps its promise where its step and the telling do, and their promises are enough for it.
  pub play_meets : (𝓣 : Tables 𝓤 H) → Triple 𝓤 (𝓣.C g) (PlayStep Says 𝓤 𝓛) → Triple 𝓤 (𝓣.C h) (TellStep Tells 𝓤 𝓛) → Meets 𝓛 play_lent.signature (WpFn 𝓤 H 𝓣.C 𝓣.Λ (play_code g h)) (closing 𝓛 play_lent (play_promise Claims 𝓤))
  play_meets 𝓣 known tells =
      walk_Meets 𝓛 play_lent play_stays play_goes (play_promise Claims 𝓤) (WpFn 𝓤 H 𝓣.C 𝓣.Λ (play_code g h)) (WpFn-mono 𝓤 H 𝓛.laws 𝓣 (play_code g h))
      (play_walks 𝓣.C 𝓣.Λ (fm_of 𝓤 H 𝓛.laws 𝓣) known tells)
