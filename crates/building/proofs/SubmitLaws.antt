-- The whole submission: its refusals, and what an admitted one leaves. Assumes nothing.
use Rattle.std.specs.Prelude.{Err}
use Prim.Native.Nat.{ℕ, ◌≤◌}
use mathlib.Core.Bool.{Bool, true, false, ◌&&◌, and-eq-true_iff}
use mathlib.Core.List.{List}
use mathlib.Core.Path.{refl, ◌≡◌, sym, ap, subst, ◌∙◌}
use borrow.Author.Tests.{eqb-true}
use lib.Dec.{eqb}
use lib.ListN.{length}
use Rattle.sizes.specs.Sizes.{ring_size, packet_count}
use Rattle.records.specs.Kinds.{kind_number, control, bulk, interrupt, isoch}
use Rattle.records.proofs.KindLaws.{kind_false}
use Rattle.records.specs.declared.Record.{Record}
use Rattle.dock.specs.declared.Endpoint.{Endpoint}
use Rattle.dock.specs.declared.Request.{Request}
use Rattle.dock.specs.declared.What.{What}
use Rattle.dock.specs.declared.What.TheVariants.{Control, Bulk, Interrupt, Isoch}
use Rattle.dock.specs.declared.After.{After}
use Rattle.dock.specs.declared.Submitted.{Submitted}
use Rattle.dock.specs.Refusals.{refusal}
use Rattle.dock.specs.Requests.{kind_of, record_for}
use Rattle.dock.specs.Start.{start_no, too_long, id_taken, started_endpoint, started_records}
use Rattle.dock.specs.Submit.{submit_no, submit}
use Rattle.dock.proofs.RefusalLaws.{submit_passed, submit_acts, submit_refuses}
use Rattle.dock.proofs.StartPacketLaws.{few_packets}
use Rattle.dock.proofs.StartLaws.{start_admitted, record_below}
use Rattle.dock.proofs.StartStoreLaws.{place_low}
use Rattle.admission.specs.Admitted.{Admitted}
use Rattle.starting.specs.Taken.{taken_with}
use Rattle.starting.specs.declared.Begun.{Begun}
use Rattle.admission.proofs.StartLaws.{admitted}
use Rattle.starting.proofs.TakenLaws.{taken_is}
use Rattle.sending.specs.Sent.{sent_by, Sendable}
use Rattle.sending.proofs.SentLaws.{sent_is}

abbrev Sent : Type 0
Sent = After Submitted × List ℕ × List ℕ × List ℕ

abbrev Left : Type 0
Left = After Submitted × List ℕ × List ℕ × List ℕ × List ℕ

-- Only an ISO request's lengths are walked.
few : (what : What) (size : ℕ) (lengths : List ℕ) → too_long what size lengths ≡ false → kind_number (kind_of what) ≡ isoch → length lengths ≤ packet_count
few (Control type request value index) size lengths short k = absurd (kind_false control isoch refl k)
few (Bulk incoming) size lengths short k = absurd (kind_false bulk isoch refl k)
few (Interrupt incoming) size lengths short k = absurd (kind_false interrupt isoch refl k)
few (Isoch incoming) size lengths short k = few_packets incoming size lengths short

module _ (e : Endpoint) (ring finished records packets : List ℕ) (request : Request) (lengths : List ℕ) where
  abbrev number : ℕ
  number = submit_no e (length ring) (length finished) records (length packets) request lengths

  abbrev fit : Bool
  fit = eqb (length ring) (ring_size e.shape.slots) && eqb (length finished) (ring_size e.shape.slots)

  -- A number that is not 0 is the answer, and leaves everything.
  pub refused : (number ≡ 0 → ⊥)
      → (record { answer = Err (refusal number); endpoint = e }, ring, finished, records, packets) ≡ submit e ring finished records packets request lengths
  refused n = sym (submit_refuses e ring finished records packets request lengths n)

  -- Where it is 0 the sizes are right and the start is admitted.
  fits : number ≡ 0 → (fit ≡ true) × (start_no e records (length packets) request lengths ≡ 0)
  fits z = submit_passed e ring finished records packets request lengths z

  module _ (z : number ≡ 0) where
    passed : start_no e records (length packets) request lengths ≡ 0
    passed = (fits z).1

    both : (eqb (length ring) (ring_size e.shape.slots) ≡ true) × (eqb (length finished) (ring_size e.shape.slots) ≡ true)
    both = (and-eq-true_iff (eqb (length ring) (ring_size e.shape.slots)) (eqb (length finished) (ring_size e.shape.slots))).0 (fits z).0

    ring_size_lem : length ring ≡ ring_size e.shape.slots
    ring_size_lem = eqb-true _ _ both.0

    finished_size : length finished ≡ ring_size e.shape.slots
    finished_size = eqb-true _ _ both.1

    pub takes : Admitted e (length records) (length packets) request (length lengths)
    takes = admitted e records (length packets) request lengths passed

    abbrev begun_now : Endpoint
    begun_now = started_endpoint e records request lengths

    abbrev held : Record
    held = record_for request (length lengths) (id_taken e records) e.at.place

    now_sendable : Sendable begun_now (length ring) (length finished) (length packets)
    unfolding started_endpoint
    now_sendable =
        let s = start_admitted e records packets request lengths passed in
        let limits = s.fits.endpoint.limits in (
          record {
            least = limits.slots_least;
            most = limits.slots_most;
            table = finished_size;
            place = place_low e ring finished records packets request lengths passed ring_size_lem finished_size;
            held = record_below e records packets request lengths passed;
          },
          ring_size_lem,
          s.packets_size_lem,
        )

    module _ {b : Begun} {records₁ : List ℕ} (taken : ◌≡◌ {A = Begun × List ℕ} (b, records₁) (taken_with e records request (length lengths))) where
      begun_is : b.endpoint ≡ begun_now
      begun_is = ap (λ (x : Begun × List ℕ). x.0.endpoint) (taken ∙ taken_is e records request lengths)

      held_is : b.kept ≡ held
      held_is = ap (λ (x : Begun × List ℕ). x.0.kept) (taken ∙ taken_is e records request lengths)

      written_is : records₁ ≡ started_records e records request lengths
      written_is = ap (λ (x : Begun × List ℕ). x.1) (taken ∙ taken_is e records request lengths)

      -- The stores have what they need,
      pub sendable : Sendable b.endpoint (length ring) (length finished) (length packets) × (b.kept.kind ≡ isoch → length lengths ≤ packet_count)
      sendable = (
        subst (λ (x : Endpoint). Sendable x (length ring) (length finished) (length packets)) (sym begun_is) now_sendable,
        λ k. few request.what request.length lengths (start_admitted e records packets request lengths passed).short (sym (ap (λ (v : Record). v.kind) held_is) ∙ k),
      )

      abbrev with_records : List ℕ → Sent → Left
      with_records l s = (s.0, s.1, s.2, l, s.3)

      -- and leave what the whole submission leaves.
      pub whole : {s : Sent} → s ≡ sent_by b.endpoint b.kept ring finished packets lengths
          → with_records records₁ s ≡ submit e ring finished records packets request lengths
      whole {s} sent =
          ap (with_records records₁) sent
          ∙ ap (λ (x : Endpoint). with_records records₁ (sent_by x b.kept ring finished packets lengths)) begun_is
          ∙ ap (λ (v : Record). with_records records₁ (sent_by begun_now v ring finished packets lengths)) held_is
          ∙ ap (λ (l : List ℕ). with_records l (sent_by begun_now held ring finished packets lengths)) written_is
          ∙ ap (with_records (started_records e records request lengths)) (sym (sent_is e ring finished records packets request lengths passed ring_size_lem finished_size))
          ∙ sym (submit_acts e ring finished records packets request lengths z)
