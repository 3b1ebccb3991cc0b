-- After a start that is admitted its stores may follow: the record's TRBs are as many as the request takes, and the next store is a TRB. Assumes nothing.
use Prim.Native.Nat.{ℕ, ◌+◌, ◌-◌, ◌^◌, ◌<◌}
use mathlib.Core.Bool.{Bool, true, false, false≢true}
use mathlib.Core.List.{List}
use mathlib.Core.Logic.{inl, ⊎_elim}
use mathlib.Core.Path.{◌≡◌, refl, sym, ap, ◌∙◌}
use native.Mathlib.Omega.{arith}
use lib.Dec.{eqb}
use lib.ListN.{length}
use Rattle.base.specs.First.{pick}
use Rattle.base.proofs.Compare.{same_or_not}
use Rattle.ids.specs.Order.{after_id}
use Rattle.ids.proofs.AnyLaws.{after_last, after_more}
use Rattle.records.specs.Records.{record_at}
use Rattle.records.specs.declared.Record.{Record}
use Rattle.dock.specs.declared.Endpoint.{Endpoint}
use Rattle.dock.specs.declared.Request.{Request}
use Rattle.dock.specs.declared.What.{What}
use Rattle.dock.specs.declared.What.TheVariants.{Control, Bulk, Interrupt, Isoch}
use Rattle.dock.specs.RowOne.{the_trb, next_of, is_none}
use Rattle.sizes.specs.Sizes.{ring_size}
use Rattle.dock.specs.Requests.{count_for, required, with_what, record_for}
use Rattle.dock.specs.Start.{start_no, too_long, record_taken, id_taken, charged, write_packets, started_endpoint, started_records}
use Rattle.dock.specs.Trbs.{trb_count}
use Rattle.dock.proofs.StoreNextLaws.{is_next, Storing}
use Rattle.dock.proofs.StartPacketLaws.{few_packets, written_length}
use Rattle.dock.proofs.StartLaws.{Starting, start_admitted, record_below, record_taken_lem, record_written, records_length}

-- A record that is kept of an admitted request has as many TRBs as the request takes, and at least one.
pub count_is : (request : Request) (lengths : List ℕ) (id place : ℕ) → too_long request.what request.length lengths ≡ false
    → trb_count (record_for request (length lengths) id place) ≡ required request (length lengths)
unfolding trb_count
count_is request lengths id place = counted request.what
  where
    counted : (what : What) → too_long what request.length lengths ≡ false
        → trb_count (record_for (with_what request what) (length lengths) id place) ≡ count_for what request.length (length lengths)
    counted (Control type code value index) short = refl
    counted (Bulk incoming) short = refl
    counted (Interrupt incoming) short = refl
    counted (Isoch incoming) short = omega (arith, few_packets incoming request.length lengths short)

two_or_three : (b : Bool) → 0 < pick b 2 3
two_or_three true = omega arith
two_or_three false = omega arith

pub required_some : (what : What) (size count : ℕ) → 0 < count_for what size count
required_some (Control type request value index) size count = two_or_three (eqb size 0)
required_some (Bulk incoming) size count = omega arith
required_some (Interrupt incoming) size count = omega arith
required_some (Isoch incoming) size count = omega arith

after_some : (x : ℕ) → after_id x ≡ 0 → ⊥
after_some x q = ⊎_elim (λ (h : x ≡ 2 ^ 64 - 1). omega (arith, after_last x h)) (λ (h : x ≡ 2 ^ 64 - 1 → ⊥). omega (arith, after_more x h)) (same_or_not x (2 ^ 64 - 1))

module _ (e : Endpoint) (ring finished records packets : List ℕ) (request : Request) (lengths : List ℕ)
    (passed : start_no e records (length packets) request lengths ≡ 0)
    (ring_size_lem : length ring ≡ ring_size e.shape.slots) (finished_size : length finished ≡ ring_size e.shape.slots) where
  s : Starting e records packets request lengths
  s = start_admitted e records packets request lengths passed

  -- With none under way the place is at most L-2.
  pub place_low : e.at.place + 1 < e.shape.slots
  place_low =
      ⊎_elim (λ (h : e.at.place + 1 < e.shape.slots). h) (λ h. absurd (false≢true (sym s.resting ∙ h.0.1))) s.fits.endpoint.place

  pub started_count : trb_count (record_at (started_records e records request lengths) (record_taken e)) ≡ required request (length lengths)
  started_count =
      ap trb_count (record_written e records packets request lengths passed) ∙ count_is request lengths (id_taken e records) e.at.place s.short

  -- A store may follow the start: a TRB.
  pub started_next : next_of (started_endpoint e records request lengths) (record_at (started_records e records request lengths) (record_taken e)) ≡ the_trb
  unfolding started_endpoint
  started_next =
      is_next (started_endpoint e records request lengths) (record_at (started_records e records request lengths) (record_taken e)) the_trb
      (λ q. omega (arith, place_low), omega (arith, started_count, required_some request.what request.length (length lengths)))

  pub started_storing : Storing (started_endpoint e records request lengths) ring finished (started_records e records request lengths) (write_packets packets (record_taken e) request.what lengths)
  unfolding started_endpoint charged
  started_storing = record {
    fits = record { limits = s.fits.endpoint.limits; place = inl place_low; next = after_some (id_taken e records) };
    records_size_lem = records_length e records packets request lengths passed ∙ s.fits.size;
    ring_size_lem = ring_size_lem;
    finished_size = finished_size;
    packets_size_lem =
        written_length packets (record_taken e) lengths s.packets_size_lem (record_below e records packets request lengths passed) request.what request.length s.short
        ∙ s.packets_size_lem;
    busy = refl;
    course = record {
      number = record_below e records packets request lengths passed;
      held = (record_taken_lem e records packets request lengths passed).here;
      flying = ap (λ (v : Record). v.state) (record_written e records packets request lengths passed);
      counted = omega arith;
      more = ap is_none started_next;
      first = λ late. place_low;
    };
  }
