-- The list of admitted TRBs is that of `order`'s layout: TRB number n at its position, with the words that have its cycle bit; and a store of a TRB is
-- the model's write of its words with that bit. Assumes nothing.
use Prim.Native.Nat.{ℕ, zero, suc, ◌+◌, ◌-◌, ◌*◌, ◌/◌, ◌%◌, ◌^◌, ◌≤◌, ◌<◌}
use mathlib.Core.Bool.{Bool, true, false, not}
use mathlib.Core.List.{List, [], ◌∷◌, ◌++◌}
use mathlib.Core.Logic.{⊎_elim}
use mathlib.Core.Path.{◌≡◌, refl, ap, ap₂, ◌∙◌}
use native.Mathlib.Omega.{arith}
use lib.Dec.{eqb}
use lib.ListN.{length}
use Rattle.base.specs.Fields.{flag}
use Rattle.base.proofs.Compare.{same_or_not}
use Rattle.trb.specs.Layouts.{words_of, put_words}
use Rattle.trb.specs.declared.Trb.{Trb}
use Rattle.trb.specs.declared.Trb.TheVariants.{Normal, Setup, Data, Status, Isoch, Link, ResetEndpoint, StopEndpoint, SetDequeue}
use Rattle.trb.specs.declared.Words.{Words}
use Rattle.ring.specs.Ring.{store_at}
use Rattle.order.specs.Flat.{flat, set_cycle, set_slot, slot_stored_lem}
use Rattle.order.specs.Model.{placed}
use Rattle.order.specs.Model as model
use Rattle.order.proofs.Index.{pos, pos_is, even}
use Rattle.promise.specs.Controller.{Entry}
use Rattle.promise.specs.Requested.{slot_of, cycle_of, laid_out}

-- ---- the words of a TRB with another cycle bit

-- Bit 0 of word 3 given anew, where what else word 3 has is even.
new_flag : (w0 w1 w2 : ℕ) (b c : Bool) (m : ℕ) → m % 2 ≡ 0
    → ◌≡◌ {A = Words}
    (record { w0 = w0; w1 = w1; w2 = w2; w3 = flag b % 2 ^ 1 * 2 ^ 0 + m - (flag b % 2 ^ 1 * 2 ^ 0 + m) % 2 + flag c })
    (record { w0 = w0; w1 = w1; w2 = w2; w3 = flag c % 2 ^ 1 * 2 ^ 0 + m })
new_flag w0 w1 w2 b c m h = ap (λ (x : ℕ). record { w0 = w0; w1 = w1; w2 = w2; w3 = x }) (by b c)
  where
    by : (b c : Bool) → flag b % 2 ^ 1 * 2 ^ 0 + m - (flag b % 2 ^ 1 * 2 ^ 0 + m) % 2 + flag c ≡ flag c % 2 ^ 1 * 2 ^ 0 + m
    by true true = omega arith
    by true false = omega arith
    by false true = omega arith
    by false false = omega arith

pub cycle_given : (c b : Bool) (t : Trb) → set_cycle c (words_of t b) ≡ words_of t c
unfolding set_cycle words_of
cycle_given c b (Normal address length size target short chain interrupt) = new_flag _ _ _ b c _ (omega arith)
cycle_given c b (Setup kind request value index length transfer) = new_flag _ _ _ b c _ (omega arith)
cycle_given c b (Data address length short incoming) = new_flag _ _ _ b c _ (omega arith)
cycle_given c b (Status interrupt incoming) = new_flag _ _ _ b c _ (omega arith)
cycle_given c b (Isoch address length bursts target short chain interrupt block last frame asap) = new_flag _ _ _ b c _ (omega arith)
cycle_given c b (Link address toggle chain) = new_flag _ _ _ b c _ (omega arith)
cycle_given c b (ResetEndpoint endpoint slot) = new_flag _ _ _ b c _ (omega arith)
cycle_given c b (StopEndpoint endpoint slot) = new_flag _ _ _ b c _ (omega arith)
cycle_given c b (SetDequeue address state endpoint slot) = new_flag _ _ _ b c _ (omega arith)

-- A TRB's words before it has its place: with the cycle bit 0.
abbrev pub bare : Trb → Words
bare t = words_of t false

abbrev pub bared : List Trb → List Words
bared [] = []
bared (t ∷ ts) = bare t ∷ bared ts

pub bared_length : (ts : List Trb) → length (bared ts) ≡ length ts
bared_length [] = refl
bared_length (t ∷ ts) = ap suc (bared_length ts)

pub bared_append : (ts us : List Trb) → bared (ts ++ us) ≡ bared ts ++ bared us
bared_append [] us = refl
bared_append (t ∷ ts) us = ap (λ (l : List Words). bare t ∷ l) (bared_append ts us)

-- A store of a TRB, where the ring has the slot.
pub store_is : (ring : List ℕ) (place : ℕ) (t : Trb) (c : Bool) → 4 * place + 4 ≤ length ring
    → set_slot ring place (set_cycle c (bare t)) ≡ store_at ring place t c
unfolding store_at
store_is ring place t c h = slot_stored_lem ring place (set_cycle c (bare t)) h ∙ ap (λ (w : Words). put_words ring place w) (cycle_given c false t)

-- ---- by number

-- Cycle 1 on even rounds.
even_is : (q : ℕ) → even q ≡ eqb (q % 2) 0
even_is zero = refl
even_is (suc q) = ap not (even_is q) ∙ turned
  where
    turned : not (eqb (q % 2) 0) ≡ eqb (suc q % 2) 0
    turned =
        ⊎_elim
        (λ (e : q % 2 ≡ 0). let f : suc q % 2 ≡ 1 = omega arith in rw (e, f))
        (λ (e : q % 2 ≡ 0 → ⊥). let f : suc q % 2 ≡ 0 = omega arith in let g : q % 2 ≡ 1 = omega arith in rw (f, g))
        (same_or_not (q % 2) 0)

module _ (K slots : ℕ) (some_slot : 0 < K) (same : slots ≡ suc K) where
  entry_is : (n : ℕ) (t : Trb) → placed (flat K) (pos K n) (bare t) ≡ record { at = slot_of slots n; trb = words_of t (cycle_of slots n) }
  entry_is n t =
      let k : slots - 1 ≡ K = omega arith in
      rw k
      (ap (λ (p : model.Position). placed (flat K) p (bare t)) (pos_is K some_slot n)
      ∙ ap (λ (w : Words). record { at = n % K; trb = w }) (cycle_given (even (n / K)) false t ∙ ap (words_of t) (even_is (n / K))))

  pub laid_out_lem : (n : ℕ) (ts : List Trb) → model.layout (flat K) (pos K n) (bared ts) ≡ laid_out slots n ts
  laid_out_lem n [] = refl
  laid_out_lem n (t ∷ ts) = ap₂ (λ (e : Entry) (l : List Entry). e ∷ l) (entry_is n t) (laid_out_lem (suc n) ts)
