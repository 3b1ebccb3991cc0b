-- A submission under way, TRB by TRB, ends as it does store by store: so many strides and the close are what `dock`'s stores come to. Assumes nothing.
use Rattle.std.specs.Prelude.{Ok}
use Prim.Native.Nat.{ℕ, zero, suc, ◌+◌}
use mathlib.Core.Bool.{Bool, true, false, false≢true}
use mathlib.Core.List.{List}
use mathlib.Core.Logic.{⊎_elim}
use mathlib.Core.Path.{◌≡◌, refl, sym, ap, subst, ◌∙◌}
use native.Mathlib.Omega.{arith}
use borrow.Author.Tests.{eq-eqb, ne_eqb}
use lib.Dec.{eqb}
use lib.ListN.{length}
use Rattle.base.proofs.Compare.{same_or_not}
use Rattle.ids.proofs.AnyLaws.{true_or_false}
use Rattle.ring.specs.Ring.{store_at}
use Rattle.ring.specs.declared.Position.{Position}
use Rattle.records.specs.declared.Record.{Record}
use Rattle.dock.specs.declared.Endpoint.{Endpoint}
use Rattle.dock.specs.declared.After.{After}
use Rattle.dock.specs.declared.Submitted.{Submitted}
use Rattle.dock.specs.declared.Stored.{Stored}
use Rattle.dock.specs.RowOne.{Next, the_link, the_trb, the_first, none, next_of, is_none}
use Rattle.dock.specs.State.{idle, with_store}
use Rattle.dock.specs.NextStore.{store_no, store, stepped, ring_stored, finished_stored}
use Rattle.dock.specs.Trbs.{trb_count, deferred, first_trb}
use Rattle.dock.specs.Submit.{after_store, finish}
use Rattle.dock.proofs.SubmitEndLaws.{still}
use Rattle.dock.proofs.StoreNextLaws.{is_next, Storing, store_admits}
use Rattle.dock.proofs.RefusalLaws.{store_acts}
use Rattle.dock.proofs.TdLaws.{chain_same}
use Rattle.dock.proofs.StoreStepLaws.{first_is_last, store_goes_on, store_ends}
use Rattle.dock.proofs.StoreLaws.{flying_record, next_store, ring_length, finished_length}
use Rattle.striding.specs.Stride.{put_trb, next_put, strode, strides, closed}

abbrev Whole : Type 0
Whole = After Submitted × List ℕ × List ℕ

-- ---- a submission that ends, ends in one way

IsDone : Whole → Type 0
IsDone s = (id : ℕ) × (bell : ℕ) × (s.0.answer ≡ Ok (record { id = id; bell = bell }))

module _ (records packets : List ℕ) where
  -- The stores that are left end so, within some number of them.
  abbrev pub Ends : Endpoint → List ℕ → List ℕ → Whole → Type 0
  Ends e ring finished s = (fuel : ℕ) × (finish fuel e ring finished records packets ≡ s)

  module _ (e : Endpoint) (ring finished : List ℕ) (s : Storing e ring finished records packets) where
    abbrev v : Record
    v = flying_record e records

    passed : store_no e (length ring) (length finished) records (length packets) ≡ 0
    passed = store_admits e ring finished records packets s

    abbrev left : After Stored × List ℕ × List ℕ
    left = store e ring finished records packets

    ring_is : (n : Next) → next_store e records ≡ n → left.1 ≡ ring_stored n e v packets ring
    ring_is n q =
        ap (λ (x : After Stored × List ℕ × List ℕ). x.1) (store_acts e ring finished records packets passed)
        ∙ ap (λ (m : Next). ring_stored m e v packets ring) q

    finished_is : (n : Next) → next_store e records ≡ n → left.2 ≡ finished_stored n e finished
    finished_is n q =
        ap (λ (x : After Stored × List ℕ × List ℕ). x.2) (store_acts e ring finished records packets passed)
        ∙ ap (λ (m : Next). finished_stored m e finished) q

    abbrev more : Next → Bool
    more n = is_none (next_of (stepped n e v packets) v)

    abbrev followed : ℕ → After Stored → List ℕ → List ℕ → Whole
    followed fuel x ring' finished' =
        after_store x.answer x.endpoint ring' finished' (λ e ring finished. finish fuel e ring finished records packets)

    one_more : (fuel : ℕ) → finish (suc fuel) e ring finished records packets ≡ followed fuel left.0 left.1 left.2
    unfolding finish
    one_more fuel = refl

    -- A store with others behind it: what those end in is what it ends in;
    goes_on : (n : Next) → next_store e records ≡ n → more n ≡ false → (w : Whole)
        → Ends (stepped n e v packets) (ring_stored n e v packets ring) (finished_stored n e finished) w → Ends e ring finished w
    goes_on n q m w (fuel, ends) =
        let told = store_goes_on e ring finished records packets passed (ap more q ∙ m) in (
          suc fuel,
          one_more fuel
              ∙ ap (λ (x : After Stored). followed fuel x left.1 left.2) told
              ∙ ap (λ (m : Next). finish fuel (stepped m e v packets) left.1 left.2 records packets) q
              ∙ ap (λ (l : List ℕ). finish fuel (stepped n e v packets) l left.2 records packets) (ring_is n q)
              ∙ ap (λ (l : List ℕ). finish fuel (stepped n e v packets) (ring_stored n e v packets ring) l records packets) (finished_is n q)
              ∙ ends,
        )

    -- the last one ends the submission.
    abbrev pub lastly : Next → List ℕ → List ℕ → Whole
    lastly n ring' finished' = (
      record {
        answer = Ok (record { id = v.id; bell = e.who.dci });
        endpoint = with_store (stepped n e v packets) (stepped n e v packets).at (stepped n e v packets).periodic.frame idle;
      },
      ring',
      finished',
    )

    stops : (n : Next) → next_store e records ≡ n → more n ≡ true → Ends e ring finished (lastly n (ring_stored n e v packets ring) (finished_stored n e finished))
    stops n q m =
        let told = store_ends e ring finished records packets passed (ap more q ∙ m) in (
          1,
          one_more 0
              ∙ ap (λ (x : After Stored). followed 0 x left.1 left.2) told
              ∙ ap (λ (m : Next). lastly m left.1 left.2) q
              ∙ ap (λ (l : List ℕ). lastly n l left.2) (ring_is n q)
              ∙ ap (λ (l : List ℕ). lastly n (ring_stored n e v packets ring) l) (finished_is n q),
        )

  -- ---- from one place of a submission to a later one

  -- The end of a submission, where x is the endpoint behind its last store.
  abbrev end_with : Record → ℕ → Endpoint → List ℕ → List ℕ → Whole
  end_with v bell x ring finished =
      (record { answer = Ok (record { id = v.id; bell = bell }); endpoint = with_store x x.at x.periodic.frame idle }, ring, finished)

  -- The stores of e lead to x: where nothing is left there, they end so; else x's stores may follow, and end them.
  Leads : Record → ℕ → Endpoint → List ℕ → List ℕ → Endpoint → List ℕ → List ℕ → Type 0
  Leads v bell e ring finished x ring' finished' =
      (next_of x v ≡ none → Ends e ring finished (end_with v bell x ring' finished'))
      × (is_none (next_of x v) ≡ false
      → Storing x ring' finished' records packets × ((w : Whole) → Ends x ring' finished' w → Ends e ring finished w))

  -- One store leads to what it leaves,
  module _ (e : Endpoint) (ring finished : List ℕ) (s : Storing e ring finished records packets) where
    abbrev f : Record
    f = flying_record e records

    one_store : (n : Next) → next_of e f ≡ n → (x : Endpoint) (ring' finished' : List ℕ) → stepped n e f packets ≡ x
        → ring_stored n e f packets ring ≡ ring' → finished_stored n e finished ≡ finished' → Leads f e.who.dci e ring finished x ring' finished'
    unfolding Leads
    one_store n q x ring' finished' step rings places = (
      λ nothing.
          subst (Ends e ring finished)
          (ap (λ (y : Endpoint). end_with f e.who.dci y (ring_stored n e f packets ring) (finished_stored n e finished)) step
          ∙ ap (λ (l : List ℕ). end_with f e.who.dci x l (finished_stored n e finished)) rings
          ∙ ap (λ (l : List ℕ). end_with f e.who.dci x ring' l) places)
          (stops e ring finished s n q (ap (λ (y : Endpoint). is_none (next_of y f)) step ∙ ap is_none nothing)),
      λ more.
          let going : is_none (next_of (stepped n e f packets) f) ≡ false = ap (λ (y : Endpoint). is_none (next_of y f)) step ∙ more in (
            subst (λ (y : Endpoint). Storing y ring' finished' records packets) step
                (still e ring finished records packets s n q going ring' finished'
                (ap length (sym rings ∙ sym (ring_is e ring finished s n q)) ∙ ring_length e ring finished records packets (passed e ring finished s))
                (ap length (sym places ∙ sym (finished_is e ring finished s n q)) ∙ finished_length e ring finished records packets (passed e ring finished s))),
            λ w ends.
                goes_on e ring finished s n q going w
                (subst (λ (y : Endpoint). Ends y (ring_stored n e f packets ring) (finished_stored n e finished) w) (sym step)
                (subst (λ (l : List ℕ). Ends x l (finished_stored n e finished) w) (sym rings)
                (subst (λ (l : List ℕ). Ends x ring' l w) (sym places) ends))),
          ),
    )

  -- and what it leads to may lead on.
  led_on : (v : Record) (bell : ℕ) (e : Endpoint) (ring finished : List ℕ) (x : Endpoint) (ring₁ finished₁ : List ℕ) (y : Endpoint) (ring₂ finished₂ : List ℕ)
      → Leads v bell e ring finished x ring₁ finished₁ → is_none (next_of x v) ≡ false
      → (Storing x ring₁ finished₁ records packets → Leads v bell x ring₁ finished₁ y ring₂ finished₂)
      → Leads v bell e ring finished y ring₂ finished₂
  unfolding Leads
  led_on v bell e ring finished x ring₁ finished₁ y ring₂ finished₂ first more then =
      let k = first.1 more in
      let l = then k.0 in
      (λ nothing. k.1 (end_with v bell y ring₂ finished₂) (l.0 nothing), λ left. let m = l.1 left in (m.0, λ w ends. k.1 w (m.1 w ends)))

  -- ---- a stride is a store, or two

  module _ (e : Endpoint) (ring finished : List ℕ) (s : Storing e ring finished records packets)
      (trb : next_of e (flying_record e records) ≡ the_trb) where
    abbrev r : Record
    r = flying_record e records

    abbrev put : Position × List ℕ × List ℕ
    put = next_put e r packets ring finished

    abbrev next : Endpoint
    next = strode e r packets put.0

    abbrev onto : Type 0
    onto = Leads r e.who.dci e ring finished next put.1 put.2

    -- Behind a TRB that leaves the place below L-1 it is the store,
    short : (e.at.place + 2 ≡ e.shape.slots → ⊥) → onto
    unfolding stepped ring_stored finished_stored put_trb
    short low =
        let test : eqb (e.at.place + 1 + 1) e.shape.slots ≡ false = ne_eqb (e.at.place + 1 + 1) e.shape.slots (λ q. low (omega arith)) in
        one_store e ring finished s the_trb trb next put.1 put.2 (rw test) (rw test) refl

    -- behind one that leaves it at L-1 the link's too.
    abbrev at_last : Endpoint
    at_last = stepped the_trb e r packets

    abbrev ring_last : List ℕ
    ring_last = ring_stored the_trb e r packets ring

    abbrev finished_last : List ℕ
    finished_last = finished_stored the_trb e finished

    link_due : e.at.place + 2 ≡ e.shape.slots → next_of at_last r ≡ the_link
    unfolding stepped
    link_due last = is_next at_last r the_link (omega arith)

    long : e.at.place + 2 ≡ e.shape.slots → onto
    unfolding stepped ring_stored finished_stored put_trb
    long last =
        let test : eqb (e.at.place + 1 + 1) e.shape.slots ≡ true = eq-eqb (e.at.place + 1 + 1) e.shape.slots (omega arith) in
        led_on r e.who.dci e ring finished at_last ring_last finished_last next put.1 put.2
        (one_store e ring finished s the_trb trb at_last ring_last finished_last refl refl refl)
        (ap is_none (link_due last))
        (λ t. one_store at_last ring_last finished_last t the_link (link_due last) next put.1 put.2 (rw test) (rw (test, chain_same the_trb e r packets)) refl)

    stride : onto
    stride = ⊎_elim long short (same_or_not (e.at.place + 2) e.shape.slots)

    -- It leaves the place below L-1.
    low_again : next.at.place + 1 ≡ e.shape.slots → ⊥
    unfolding put_trb
    low_again =
        ⊎_elim
        (λ (last : e.at.place + 1 + 1 ≡ e.shape.slots).
        rw (eq-eqb (e.at.place + 1 + 1) e.shape.slots last) (λ q. omega (arith, s.fits.limits.slots_least)))
        (λ (low : e.at.place + 1 + 1 ≡ e.shape.slots → ⊥). rw (ne_eqb (e.at.place + 1 + 1) e.shape.slots low) low)
        (same_or_not (e.at.place + 1 + 1) e.shape.slots)

  -- ---- to the end

  module _ (v : Record) (x : Endpoint) (ring finished : List ℕ) where
    again_closed : deferred v ≡ true
        → end_with v x.who.dci x (store_at ring x.work.place (first_trb x v packets) x.work.cycle) finished ≡ closed v packets (x, ring, finished)
    unfolding closed
    again_closed late = rw late

    other_closed : deferred v ≡ false → end_with v x.who.dci x ring finished ≡ closed v packets (x, ring, finished)
    unfolding closed
    other_closed early = rw early

  module _ (e : Endpoint) (ring finished : List ℕ) (s : Storing e ring finished records packets)
      (trb : next_of e (flying_record e records) ≡ the_trb) (all : e.work.stored + 1 ≡ trb_count (flying_record e records)) where
    abbrev g : Record
    g = flying_record e records

    abbrev last : Position × List ℕ × List ℕ
    last = next_put e g packets ring finished

    abbrev end : Endpoint
    end = strode e g packets last.0

    low : end.at.place + 1 ≡ end.shape.slots → ⊥
    low = low_again e ring finished s trb

    -- Behind the last TRB of a deferred TD the first comes again,
    with_first : deferred g ≡ true → Ends e ring finished (closed g packets (end, last.1, last.2))
    unfolding Leads stepped ring_stored finished_stored
    with_first late =
        let due : next_of end g ≡ the_first = is_next end g the_first (low, late, all) in
        let k = (stride e ring finished s trb).1 (ap is_none due) in
        let over = first_is_last end g packets due in
        subst (Ends e ring finished) (again_closed g end last.1 last.2 late)
        (k.1 _
        ((one_store end last.1 last.2 k.0 the_first due (stepped the_first end g packets) (ring_stored the_first end g packets last.1) last.2 refl refl refl).0 over))

    -- behind that of any other nothing.
    without : deferred g ≡ false → Ends e ring finished (closed g packets (end, last.1, last.2))
    unfolding Leads
    without early =
        let over : next_of end g ≡ none = is_next end g none (low, omega arith, λ k. false≢true (sym early ∙ k.0)) in
        subst (Ends e ring finished) (other_closed g end last.1 last.2 early) ((stride e ring finished s trb).0 over)

    ends_one : Ends e ring finished (closed g packets (end, last.1, last.2))
    ends_one = ⊎_elim with_first without (true_or_false (deferred g))

  -- A submission of which so many TRBs are left ends as its strides and the close leave it.
  pub strides_end : (n : ℕ) (e : Endpoint) (ring finished : List ℕ) → Storing e ring finished records packets
      → next_of e (flying_record e records) ≡ the_trb → e.work.stored + suc n ≡ trb_count (flying_record e records)
      → Ends e ring finished (closed (flying_record e records) packets (strides (suc n) e (flying_record e records) packets ring finished))
  unfolding strides Leads
  strides_end zero e ring finished s trb left = ends_one e ring finished s trb left
  strides_end (suc n) e ring finished s trb left =
      let v = flying_record e records in
      let p = next_put e v packets ring finished in
      let x = strode e v packets p.0 in
      let due : next_of x v ≡ the_trb = is_next x v the_trb (low_again e ring finished s trb, omega arith) in
      let k = (stride e ring finished s trb).1 (ap is_none due) in
      k.1 _ (strides_end n x p.1 p.2 k.0 due (omega arith))
