-- An endpoint that is saved is loaded as it was, and words that came from a save are saved as they were; what is loaded from words of an endpoint has
-- its fields as narrow as their types, and what is saved of such an endpoint are words of one. Assumes nothing.
use Rattle.std.specs.Prelude.{Ok}
use Prim.Native.Nat.{ℕ, ◌+◌, ◌<◌, ◌^◌}
use mathlib.Core.Bool.{Bool, true, false}
use mathlib.Core.List.{List}
use mathlib.Core.Path.{◌≡◌, refl, sym, ap, ◌∙◌}
use lib.ListN.{length, get_or}
use Rattle.base.specs.First.{pick}
use Rattle.base.proofs.Decide.{Decides, by_ltb, by_eqb, both, reworded, if_so}
use Rattle.records.proofs.RecordLaws.{flag_set}
use Rattle.dock.specs.declared.Endpoint.{Endpoint}
use Rattle.loaded.specs.State.{identity_from, periodic_from, Narrow, state_words, is_state, parsed, Fitting, load, save, moves, kept}

-- The test of the words decides its facts.
pub by_state : (w : List ℕ) → Decides (is_state w) (Fitting w)
unfolding is_state
by_state w =
    reworded there back
    (both (both (by_eqb (length w) state_words) (both (by_ltb (get_or w identity_from 0) (2 ^ 8)) (by_ltb (get_or w (identity_from + 1) 0) (2 ^ 8))))
    (both (both (both (by_ltb (get_or w periodic_from 0) (2 ^ 16)) (by_ltb (get_or w (periodic_from + 1) 0) (2 ^ 8)))
    (by_ltb (get_or w (periodic_from + 2) 0) (2 ^ 8))) (by_ltb (get_or w (periodic_from + 3) 0) (2 ^ 16))))
  where
    Facts : Type 0
    Facts =
        ((length w ≡ state_words) × ((get_or w identity_from 0 < 2 ^ 8) × (get_or w (identity_from + 1) 0 < 2 ^ 8)))
        × ((((get_or w periodic_from 0 < 2 ^ 16) × (get_or w (periodic_from + 1) 0 < 2 ^ 8)) × (get_or w (periodic_from + 2) 0 < 2 ^ 8))
        × (get_or w (periodic_from + 3) 0 < 2 ^ 16))

    there : Facts → Fitting w
    there f =
        record {
          size = f.0.0;
          slot = f.0.1.0;
          dci = f.0.1.1;
          packet = f.1.0.0.0;
          burst = f.1.0.0.1;
          interval = f.1.0.1;
          frame = f.1.1;
        }

    back : Fitting w → Facts
    back f = ((f.size, (f.slot, f.dci)), (((f.packet, f.burst), f.interval), f.frame))

-- Words that fit are parsed as what they say.
pub fitting_parsed : (w : List ℕ) → Fitting w → parsed w ≡ Ok (load w)
unfolding parsed
fitting_parsed w f = rw (if_so (by_state w) f) refl

-- What is loaded from them is narrow.
pub load_narrow : (w : List ℕ) → is_state w ≡ true → Narrow (load w)
unfolding load
load_narrow w t =
    let f = (by_state w).so t in
    record { slot = f.slot; dci = f.dci; packet = f.packet; burst = f.burst; interval = f.interval; frame = f.frame }

pub load_save : (e : Endpoint) → load (save e) ≡ e
unfolding load save
load_save e = simp flag_set

pub save_load : (w : List ℕ) (e : Endpoint) → w ≡ save e → save (load w) ≡ w
save_load w e from = ap (λ (v : List ℕ). save (load v)) from ∙ ap save (load_save e) ∙ sym from

pub save_length : (e : Endpoint) → length (save e) ≡ state_words
unfolding save
save_length e = refl

-- The words of a narrow endpoint fit, and are an endpoint's.
pub save_fits : (e : Endpoint) → Narrow e → Fitting (save e)
unfolding save
save_fits e n = record {
  size = refl;
  slot = n.slot;
  dci = n.dci;
  packet = n.packet;
  burst = n.burst;
  interval = n.interval;
  frame = n.frame;
}

pub save_state : (e : Endpoint) → Narrow e → is_state (save e) ≡ true
save_state e n = if_so (by_state (save e)) (save_fits e n)

-- The words after an answer say the endpoint afterwards, where an answer that does not move them leaves the endpoint;
pub kept_says : (number : ℕ) (w : List ℕ) (e : Endpoint) → (moves number ≡ false → e ≡ load w) → load (kept number w e) ≡ e
unfolding kept
kept_says number w e left = by (moves number) left
  where
    by : (b : Bool) → (b ≡ false → e ≡ load w) → load (pick b (save e) w) ≡ e
    by true same = load_save e
    by false same = sym (same refl)

-- and they are an endpoint's, where the endpoint afterwards is narrow, and those that the answer leaves are an endpoint's.
pub kept_state : (number : ℕ) (w : List ℕ) (e : Endpoint) → Narrow e → (moves number ≡ false → is_state w ≡ true)
    → is_state (kept number w e) ≡ true
unfolding kept
kept_state number w e n left = by (moves number) left
  where
    by : (b : Bool) → (b ≡ false → is_state w ≡ true) → is_state (pick b (save e) w) ≡ true
    by true before = save_state e n
    by false before = before refl
