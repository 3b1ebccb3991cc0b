-- Document 02, "A buffer that just fits is refused", of the TRBs that the controller is given. `trbs_none_above`: no TRB of a request that rows 3 and 5 let
-- pass names a byte above the mask. `packets_in_turn`: under a mask below 2^64 the packets of an ISO request that rows 3 and 5 let pass stand one behind the
-- other from the buffer's address on (from 0 where its length is 0): the address of one with no byte modulo 2^64, that of every other one exact.
-- `run_none_above`: in every state that a run reaches no admitted TRB names a byte above the mask that the dock was made with. Assumes nothing.
use Prim.Native.Nat.{ℕ, ◌+◌, ◌-◌, ◌%◌, ◌^◌, ◌<◌, ◌≤◌}
use mathlib.Core.Bool.{Bool, true, false, false≢true}
use mathlib.Core.List.{List, [], ◌∷◌, ◌++◌}
use mathlib.Core.Logic.{inr, ⊎_elim}
use mathlib.Core.Path.{◌≡◌, refl, sym, ap, ◌∙◌, subst}
use native.Mathlib.Nat.{mod-eq_of_lt}
use native.Mathlib.Omega.{arith}
use borrow.Author.Tests.{eq-eqb, ne_eqb}
use lib.Dec.{eqb}
use lib.ListN.{length}
use Rattle.base.proofs.Compare.{lt_or_le, same_or_not}
use Rattle.trb.specs.declared.Trb.{Trb}
use Rattle.dock.specs.declared.Endpoint.{Endpoint}
use Rattle.dock.specs.declared.Identity.{Identity}
use Rattle.dock.specs.declared.Request.{Request}
use Rattle.dock.specs.declared.What.{What}
use Rattle.dock.specs.declared.What.TheVariants as asks
use Rattle.dock.specs.Run.{Call, configures, starts, stores, submits, reclaims, cancels, retires, begins, ends, stops, resumes, points}
use Rattle.dock.specs.Run as dock
use Rattle.dock.specs.Start.{sum_of, too_long, beyond, at_least_one, start_no}
use Rattle.dock.proofs.BufferLaws.{by_bytes}
use Rattle.dock.proofs.RefusalTestLaws.{by_too_long_isoch}
use Rattle.dock.proofs.RetireLaws.{picked}
use Rattle.dock.proofs.StartLaws.{start_admitted}
use Rattle.promise.specs.Requested.{Settings, address_stored, isoch_trbs, trbs_for, trbs_of, NoneAbove, InTurn}
use Rattle.promise.specs.Run.{World, admits, handed, stepped, Move, calls, hands, steps, act, Run, made, and_then}
use Rattle.promise.proofs.Agreed.{Agreed, start_no_lem, run_agreed}

-- ---- the TRBs of one request

module _ (mask address size : ℕ) (reach : beyond mask address size ≡ false) where
  each_byte : (k : ℕ) → k < size → address + k ≤ mask
  each_byte k l =
      ⊎_elim (λ (h : mask < address + k). absurd ((by_bytes mask address size).not_so reach (k, l, h))) (λ (h : address + k ≤ mask). h)
      (lt_or_le mask (address + k))

  -- Where there is a byte, the buffer ends at most behind the mask's own.
  end : 0 < size → address + size ≤ mask + 1
  end some = omega (arith, each_byte (size - 1) (omega (arith, some)), some)

  stored_end : address_stored address size + size ≤ mask + 1
  stored_end =
      ⊎_elim (λ (q : size ≡ 0). rw (eq-eqb size 0 q) (omega (arith, q)))
      (λ (q : size ≡ 0 → ⊥). rw (ne_eqb size 0 q) (end (omega (arith, q))))
      (same_or_not size 0)

  normal_byte : (k : ℕ) → k < size → address_stored address size + k ≤ mask
  normal_byte k l = omega (arith, stored_end, l)

-- The sum of the lengths is at most the buffer's.
module _ (incoming : Bool) (size : ℕ) (lengths : List ℕ) (short : too_long (asks.Isoch incoming) size lengths ≡ false) where
  sum_within : sum_of (at_least_one lengths) ≤ size
  sum_within = omega (arith, one_or_more lengths, whole)
    where
      one_or_more : (ns : List ℕ) → sum_of (at_least_one ns) ≡ sum_of ns
      one_or_more [] = refl
      one_or_more (n ∷ ns) = refl

      whole : sum_of lengths ≤ size
      whole =
          ⊎_elim (λ (h : size < sum_of lengths). absurd ((by_too_long_isoch incoming size lengths).not_so short (inr h))) (λ (h : sum_of lengths ≤ size). h)
          (lt_or_le size (sum_of lengths))

isoch_none_above : (mask : ℕ) (incoming : Bool) (packet burst address : ℕ) (ns : List ℕ) → address + sum_of ns ≤ mask + 1
    → NoneAbove mask (isoch_trbs incoming packet burst address ns)
isoch_none_above mask incoming packet burst address [] e = tt
isoch_none_above mask incoming packet burst address (n ∷ ns) e =
    (λ k l. omega (arith, e, l), isoch_none_above mask incoming packet burst ((address + n) % 2 ^ 64) ns (omega (arith, e)))

pub trbs_none_above : (mask : ℕ) (s : Settings) (request : Request) (lengths : List ℕ) → too_long request.what request.length lengths ≡ false
    → beyond mask request.address request.length ≡ false → NoneAbove mask (trbs_of s request lengths)
trbs_none_above mask s request lengths = by request.what request.address request.length
  where
    by : (what : What) (address size : ℕ) → too_long what size lengths ≡ false → beyond mask address size ≡ false
        → NoneAbove mask (trbs_for s what address size lengths)
    by (asks.Control type code value index) address size short reach =
        picked (NoneAbove mask) (eqb size 0) _ _
        (λ t. (λ k l. omega (arith, l), (λ k l. omega (arith, l), tt)))
        (λ t. (λ k l. omega (arith, l), (each_byte mask address size reach, (λ k l. omega (arith, l), tt))))
    by (asks.Bulk incoming) address size short reach = (normal_byte mask address size reach, tt)
    by (asks.Interrupt incoming) address size short reach = (normal_byte mask address size reach, tt)
    by (asks.Isoch incoming) address size short reach =
        isoch_none_above mask incoming s.packet s.burst (address_stored address size) (at_least_one lengths)
        (omega (arith, stored_end mask address size reach, sum_within incoming size lengths short))

-- ---- where the packets stand

in_turn : (incoming : Bool) (packet burst address : ℕ) (ns : List ℕ) → address + sum_of ns ≤ 2 ^ 64
    → InTurn address ns (isoch_trbs incoming packet burst (address % 2 ^ 64) ns)
in_turn incoming packet burst address [] e = tt
in_turn incoming packet burst address (n ∷ ns) e =
    let on : (address % 2 ^ 64 + n) % 2 ^ 64 ≡ (address + n) % 2 ^ 64 = omega arith in
    ((refl, refl), (λ some. mod-eq_of_lt (omega (arith, e, some)), rw on (in_turn incoming packet burst (address + n) ns (omega (arith, e)))))

module _ (mask : ℕ) (wide : mask < 2 ^ 64) (s : Settings) (incoming : Bool) (address size : ℕ) (lengths : List ℕ)
    (short : too_long (asks.Isoch incoming) size lengths ≡ false) (reach : beyond mask address size ≡ false) where
  pub packets_in_turn : InTurn (address_stored address size) (at_least_one lengths) (trbs_for s (asks.Isoch incoming) address size lengths)
  packets_in_turn =
      subst (λ (x : ℕ). InTurn (address_stored address size) (at_least_one lengths) (isoch_trbs incoming s.packet s.burst x (at_least_one lengths)))
      (mod-eq_of_lt from)
      (in_turn incoming s.packet s.burst (address_stored address size) (at_least_one lengths)
      (omega (arith, wide, stored_end mask address size reach, sum_within incoming size lengths short)))
    where
      from : address_stored address size < 2 ^ 64
      from =
          ⊎_elim (λ (q : size ≡ 0). rw (eq-eqb size 0 q) (omega arith))
          (λ (q : size ≡ 0 → ⊥). rw (ne_eqb size 0 q) (omega (arith, wide, end mask address size reach (omega (arith, q)), q)))
          (same_or_not size 0)

-- ---- runs

both_none_above : (mask : ℕ) (front back : List Trb) → NoneAbove mask front → NoneAbove mask back → NoneAbove mask (front ++ back)
both_none_above mask [] back a b = b
both_none_above mask (t ∷ front) back a b = (a.0, both_none_above mask front back a.1 b)

abbrev AllWithin : World → Type 0
AllWithin w = NoneAbove w.asked.who.mask w.trbs

module _ (w : World) (g : Agreed w) (b : AllWithin w) where
  abbrev e : Endpoint
  e = w.dock.endpoint

  started_none_above : (request : Request) (lengths : List ℕ) → admits w (starts request lengths) ≡ true
      → NoneAbove w.asked.who.mask (w.trbs ++ trbs_of w.asked.settings request lengths)
  started_none_above request lengths granted =
      ⊎_elim
      (λ (p : start_no e w.dock.records (length w.dock.packets) request lengths ≡ 0).
      let k = start_admitted e w.dock.records w.dock.packets request lengths p in
      both_none_above w.asked.who.mask w.trbs _ b
      (trbs_none_above w.asked.who.mask w.asked.settings request lengths k.short
      (ap (λ (x : Identity). beyond x.mask request.address request.length) (sym g.who) ∙ k.reach)))
      (λ (p : start_no e w.dock.records (length w.dock.packets) request lengths ≡ 0 → ⊥).
      absurd (false≢true (sym (start_no_lem w request lengths p) ∙ granted)))
      (same_or_not (start_no e w.dock.records (length w.dock.packets) request lengths) 0)

  call_none_above : (c : Call) → AllWithin (act w (calls c))
  call_none_above (configures packet burst interval) = picked AllWithin (admits w (configures packet burst interval)) _ _ (λ t. b) (λ t. b)
  call_none_above (starts request lengths) = picked AllWithin (admits w (starts request lengths)) _ _ (started_none_above request lengths) (λ t. b)
  call_none_above stores = b
  call_none_above (submits request lengths) = b
  call_none_above (dock.hands event) = b
  call_none_above (reclaims id) = b
  call_none_above (cancels id) = b
  call_none_above retires = b
  call_none_above begins = b
  call_none_above (ends worked) = b
  call_none_above stops = b
  call_none_above resumes = b
  call_none_above points = b

  act_none_above : (m : Move) → AllWithin (act w m)
  unfolding handed stepped
  act_none_above (calls c) = call_none_above c
  act_none_above (hands event nth) = b
  act_none_above steps = b

pub run_none_above : {w : World} → Run w → NoneAbove w.asked.who.mask w.trbs
run_none_above (made ring finished records packets shape who done) = tt
run_none_above (and_then {w} r m allowed) = act_none_above w (run_agreed r) (run_none_above r) m
