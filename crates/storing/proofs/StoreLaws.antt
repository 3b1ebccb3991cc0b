-- A store: its tests as facts, and its parts as the code makes them. Assumes nothing.
use Prim.Native.Nat.{ℕ, ◌+◌, ◌<◌}
use mathlib.Core.Bool.{Bool, true, false, ◌&&◌, and-eq-true_iff}
use mathlib.Core.List.{List}
use mathlib.Core.Path.{◌≡◌, refl, sym, ap, subst, ◌∙◌}
use native.Mathlib.Omega.{arith}
use borrow.Author.Tests.{eqb-true, not-false}
use lib.Dec.{eqb}
use Rattle.base.specs.First.{pick}
use Rattle.base.proofs.Chosen.{quiet}
use Rattle.records.specs.Records.{record_at}
use Rattle.records.specs.declared.Record.{Record}
use Rattle.dock.specs.RowOne.{the_link, the_trb, the_first, none, fits_with}
use Rattle.sizes.specs.Sizes.{ring_size, packets_size}
use Rattle.dock.specs.NextStore.{store_tests, store_no, stepped, slot_stored, ring_stored, finished_stored, stored_answer}
use Rattle.dock.specs.Trbs.{trb_of, packet_size, deferred}
use Rattle.dock.specs.declared.Endpoint.{Endpoint}
use Rattle.dock.specs.declared.After.{After}
use Rattle.dock.specs.declared.Stored.{Stored}
use Rattle.checks.proofs.Laws.{fit, fit_with, count_most}
use Rattle.dock.proofs.RefusalTestLaws.{on_course}
use Rattle.storing.specs.Ready.{Ready, first_read}
use Rattle.trbs.specs.Trbs.{control_trb, trb_with}
use Rattle.trbs.proofs.FirstLaws.{first_of_lem}
use Rattle.steps.specs.Steps.{advanced_by, concluded_by}
use Rattle.storing.specs.Stored.{link_by, trb_by, first_by, stored_with}

first_below : (late : Bool) (place slots : ℕ) → (late ≡ true → place + 1 < slots) → 1 < slots → pick late place 0 + 1 < slots
first_below true place slots first some = first refl
first_below false place slots first some = some

-- Where no test holds, a store has what it needs.
pub ready : (e : Endpoint) (ring finished : ℕ) (records : List ℕ) (packets : ℕ) → store_no e ring finished records packets ≡ 0
    → Ready e ring finished records packets
unfolding store_no store_tests
ready e ring finished records packets t =
    let ts = store_tests e ring finished records packets in
    let size = ring_size e.shape.slots in
    let all =
    (and-eq-true_iff (fits_with e records && eqb ring size && eqb finished size) (eqb packets packets_size)).0
    (not-false _ (quiet ts 0 refl t (omega arith))) in
    let three = (and-eq-true_iff (fits_with e records && eqb ring size) (eqb finished size)).0 all.0 in
    let two = (and-eq-true_iff (fits_with e records) (eqb ring size)).0 three.0 in
    let busy = not-false e.work.busy (quiet ts 1 refl t (omega arith)) in
    let whole = fit_with e records two.0 in
    let sound = fit e whole.fit in
    let way = on_course e records whole.kept busy in
    let limits = sound.limits in (
      record {
        least = limits.slots_least;
        most = limits.slots_most;
        table = eqb-true _ _ three.1;
        place = first_below (deferred (record_at records e.work.number)) _ _ way.first (omega (arith, limits.slots_least));
        held = way.number;
      },
      eqb-true _ _ two.1,
      whole.size,
      eqb-true _ _ all.1,
      sound.places.here,
      let s = way.counted in omega (arith, count_most (record_at records e.work.number)),
    )

-- The first place is read where the TD is deferred.
pub first_low : (e : Endpoint) (records : List ℕ) (v : Record) → v ≡ record_at records e.work.number → deferred v ≡ true
    → first_read e records + 1 < e.shape.slots → e.work.place + 1 < e.shape.slots
first_low e records v is late low = subst (λ (b : Bool). pick b e.work.place 0 + 1 < e.shape.slots) (ap deferred (sym is) ∙ late) low

-- ---- what each store leaves

module _ (e : Endpoint) (v : Record) (ring finished packets : List ℕ) where
  pub link_stored : ◌≡◌ {A = After Stored × List ℕ × List ℕ} ((link_by e v ring).0, (link_by e v ring).1, finished) (stored_with the_link e v ring finished packets)
  unfolding stored_with link_by concluded_by stepped slot_stored ring_stored finished_stored stored_answer
  link_stored = refl

  pub trb_stored_lem : trb_by e v (packet_size e packets e.work.stored) ring finished ≡ stored_with the_trb e v ring finished packets
  unfolding stored_with trb_by advanced_by trb_with control_trb trb_of concluded_by stepped slot_stored ring_stored finished_stored stored_answer
  trb_stored_lem = refl

  pub first_stored : deferred v ≡ true
      → ◌≡◌ {A = After Stored × List ℕ × List ℕ} ((first_by e v ring).0, (first_by e v ring).1, finished) (stored_with the_first e v ring finished packets)
  unfolding stored_with first_by concluded_by stepped slot_stored ring_stored finished_stored stored_answer
  first_stored late = rw (first_of_lem e v packets late) refl

  pub none_stored : ◌≡◌ {A = After Stored × List ℕ × List ℕ} (concluded_by e v 0, ring, finished) (stored_with none e v ring finished packets)
  unfolding stored_with concluded_by stepped slot_stored ring_stored finished_stored stored_answer
  none_stored = refl
