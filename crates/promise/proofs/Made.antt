-- Making: the invariant holds of a dock that is made, with its controller at the outset. Assumes nothing.
use Rattle.std.specs.Prelude.{Some, None}
use Prim.Native.Nat.{ℕ, suc, ◌+◌, ◌-◌, ◌*◌}
use mathlib.Core.Bool.{false≢true}
use mathlib.Core.List.{List}
use mathlib.Core.Logic.{⊎_elim}
use mathlib.Core.Path.{◌≡◌, refl, sym, ap, ◌∙◌}
use native.Mathlib.Omega.{arith}
use borrow.Author.Tests.{not-false}
use lib.ListN.{length, replicate}
use Rattle.base.proofs.Compare.{same_or_not}
use Rattle.mask.specs.Occupancy as masks
use Rattle.mask.proofs.OccupancyLaws.{none_free}
use Rattle.trb.specs.Cycle.{type_of}
use Rattle.trb.specs.Layouts.{words_at}
use Rattle.trb.specs.declared.Words.{Words}
use Rattle.finished.specs.Finished.{finished_at}
use Rattle.dock.specs.declared.Identity.{Identity}
use Rattle.dock.specs.Refusals.{done}
use Rattle.dock.specs.declared.Shape.{Shape}
use Rattle.dock.specs.Make.{make, make_no, make_tests, zeros}
use Rattle.dock.specs.State.{fresh}
use Rattle.dock.proofs.ReachedBookLaws.{by_flies}
use Rattle.dock.proofs.ReachedSoundLaws.{not_done}
use Rattle.dock.specs.Run.{state_of, made_of}
use Rattle.dock.proofs.RefusalLaws.{make_exact, make_refuses, make_acts}
use Rattle.dock.proofs.RefusalTestLaws.{by_limits, by_sized}
use Rattle.order.specs.Flat.{flat, get_d_zeros, zeroed}
use Rattle.order.specs.Model.{idle}
use Rattle.order.specs.Model as model
use Rattle.order.proofs.Moves.{made_keeps}
use Rattle.order.proofs.Numbers.{made_numbered}
use Rattle.promise.specs.Run.{from_making}
use Rattle.promise.proofs.Kept.{Kept, rests}

-- A place of zeros is empty,
empty : (n i : ℕ) → finished_at (replicate n 0) i ≡ None
unfolding finished_at
empty n i = rw (get_d_zeros n (4 * i + 3))

-- and a slot of zeros is no link.
zero_type : (n i : ℕ) → type_of (words_at (replicate n 0) i) ≡ 0
unfolding type_of words_at
zero_type n i = rw (get_d_zeros n (4 * i + 3))

pub never_event : (event : Words) → None ≡ Some event → ⊥
never_event event e = let z : ◌≡◌ {A = ℕ} 0 1 = cc in omega arith

module _ (ring finished records packets : List ℕ) (shape : Shape) (who : Identity) where
  abbrev row : ℕ
  row = make_no (length ring) (length finished) (length records) (length packets) shape who

  fresh_kept : row ≡ 0 → Kept (from_making shape who (state_of (fresh shape who) (zeros ring) (zeros finished) (zeros records) (zeros packets)))
  unfolding make_tests model.made
  fresh_kept passed =
      let tests = (make_exact ring finished records packets shape who).passed passed in
      let limits = (by_limits shape who).so (not-false _ (tests 0 (omega arith))) in
      let sizes = (by_sized shape.slots (length ring) (length finished) (length records) (length packets)).so (not-false _ (tests 1 (omega arith))) in
      let K : ℕ = shape.slots - 1 in
      let long : length ring ≡ 4 * suc K = omega (arith, sizes.ring_size_lem, limits.slots_least) in
      record {
        K = K;
        some_slot = omega (arith, limits.slots_least);
        shape = omega (arith, limits.slots_least);
        link_slot = λ t. absurd (omega (arith, sym (zero_type (length ring) K) ∙ t));
        before = 0;
        work = idle;
        inv = rw long (made_keeps {S = flat K} (omega (arith, limits.slots_least)) (replicate (4 * suc K) 0) (zeroed K));
        numbered = rw long (made_numbered {S = flat K} (omega (arith, limits.slots_least)) (replicate (4 * suc K) 0));
        under = rests (record { free = refl; is = refl });
        begun = λ b. absurd (false≢true b);
        stored = 0;
        split = refl;
        heard_consumed = omega arith;
        places = λ i event l e. absurd (never_event event (sym (empty (length finished) i) ∙ e));
        flights = record {
          each = λ r l f. absurd (false≢true (sym (none_free r) ∙ ((by_flies (zeros records) masks.none r).so f).0));
          all = λ j h l. absurd (omega arith);
        };
      }

  pub made_kept : (make ring finished records packets shape who).0.answer ≡ done
      → Kept (from_making shape who (made_of (make ring finished records packets shape who)))
  made_kept done =
      ⊎_elim
      (λ (p : row ≡ 0). rw (make_acts ring finished records packets shape who p) (fresh_kept p))
      (λ (p : row ≡ 0 → ⊥).
      absurd (not_done _ (sym (ap (λ m. m.0.answer) (make_refuses ring finished records packets shape who p)) ∙ done)))
      (same_or_not row 0)
