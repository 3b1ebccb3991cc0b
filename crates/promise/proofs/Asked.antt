-- The TRBs that the stores of an admitted submission store, by the definition of a store, are those of the request, by the layouts: computed from the
-- record and the packets that the start has written, they are `trbs_of` of the request. None of them is a link. Assumes nothing.
use Prim.Native.Nat.{ℕ, zero, suc, ◌+◌, ◌*◌, ◌/◌, ◌%◌, ◌^◌, ◌<◌, ◌≤◌, max}
use mathlib.Core.Bool.{Bool, true, false, not, ◌&&◌}
use mathlib.Core.List.{List, [], ◌∷◌}
use mathlib.Core.Logic.{◌⊎◌, inl, inr, ⊎_elim}
use mathlib.Core.Path.{◌≡◌, refl, sym, ap, ap₂, ◌∙◌}
use native.Mathlib.Omega.{arith}
use borrow.Author.Tests.{eq-eqb, ne_eqb, lt-ltb}
use lib.Dec.{eqb, ltb}
use lib.ListN.{length, get_or}
use Rattle.base.specs.First.{pick}
use Rattle.base.specs.Fields.{bits}
use Rattle.base.proofs.Compare.{lt_or_le, same_or_not}
use Rattle.base.proofs.Decide.{by_ltb, both}
use Rattle.bursts.specs.Bursts.{bursts_of}
use Rattle.trb.specs.Cycle.{type_of}
use Rattle.trb.specs.Layouts.{type_number}
use Rattle.trb.specs.declared.Trb.{Trb}
use Rattle.trb.specs.declared.Trb.TheVariants.{Setup, Status, Isoch}
use Rattle.trb.proofs.LayoutLaws.{type_is}
use Rattle.sizes.specs.Sizes.{record_count, packets_size, longest, longest_control}
use Rattle.ring.specs.Ring.{link_trb}
use Rattle.packets.specs.Packets.{packet_at}
use Rattle.packets.specs.declared.Packet.{Packet}
use Rattle.records.specs.declared.Record.{Record}
use Rattle.dock.specs.declared.Endpoint.{Endpoint}
use Rattle.dock.specs.declared.Request.{Request}
use Rattle.dock.specs.declared.What.{What}
use Rattle.dock.specs.declared.What.TheVariants as asks
use Rattle.dock.specs.RowOne.{the_trb}
use Rattle.dock.specs.Requests.{count_for, buffer_of, required, with_what, record_for}
use Rattle.dock.specs.Start.{too_long, at_least_one, write_packets}
use Rattle.dock.specs.NextStore.{stepped}
use Rattle.dock.specs.Trbs.{trb_count, trb_of}
use Rattle.dock.proofs.StartPacketLaws.{packet_short, packet_written}
use Rattle.dock.proofs.RetireLaws.{picked}
use Rattle.dock.proofs.StartStoreLaws.{count_is}
use Rattle.dock.proofs.RefusalTestLaws.{by_too_long_control, by_too_long_bulk, by_too_long_interrupt}
use Rattle.order.specs.Flat.{flat, link_type}
use Rattle.order.specs.Model.{Plain}
use Rattle.promise.specs.Requested.{Settings, address_stored, some, control_trbs, normal_trbs, isoch_trbs, trbs_for, trbs_of, typed}
use Rattle.promise.proofs.Kept.{upcoming}
use Rattle.promise.proofs.Laid.{bare, bared}

-- ---- control

module _ (type request value index : ℕ) (given : Request) (fits : typed (asks.Control type request value index) ≡ true) where
  abbrev address : ℕ
  address = given.address

  abbrev size : ℕ
  size = given.length

  record Small : Type 0 where
    type_small : type < 2 ^ 8
    request_small : request < 2 ^ 8
    value_small : value < 2 ^ 16
    index_small : index < 2 ^ 16

  small : Small
  small =
      let k = (both (both (both (by_ltb type (2 ^ 8)) (by_ltb request (2 ^ 8))) (by_ltb value (2 ^ 16))) (by_ltb index (2 ^ 16))).so fits in
      record { type_small = k.0.0.0; request_small = k.0.0.1; value_small = k.0.1; index_small = k.1 }

  abbrev packed : ℕ
  packed = type + request * 2 ^ 8 + value * 2 ^ 16 + index * 2 ^ 32

  setup_fields : (size transfer : ℕ)
      → Setup (bits 0 8 packed) (bits 8 8 packed) (bits 16 16 packed) (bits 32 16 packed) size transfer ≡ Setup type request value index size transfer
  setup_fields size transfer =
      let s = small in
      let after-type : packed / 2 ^ 8 ≡ request + value * 2 ^ 8 + index * 2 ^ 24 = omega (arith, s.type_small) in
      let after-request : packed / 2 ^ 16 ≡ value + index * 2 ^ 16 = omega (arith, s.type_small, s.request_small) in
      let after-value : packed / 2 ^ 32 ≡ index = omega (arith, s.type_small, s.request_small, s.value_small) in
      let a : bits 0 8 packed ≡ type = omega (arith, s.type_small) in
      let b : bits 8 8 packed ≡ request = ap (λ (n : ℕ). n % 2 ^ 8) after-type ∙ omega (arith, s.request_small) in
      let c : bits 16 16 packed ≡ value = ap (λ (n : ℕ). n % 2 ^ 16) after-request ∙ omega (arith, s.value_small) in
      let d : bits 32 16 packed ≡ index = ap (λ (n : ℕ). n % 2 ^ 16) after-value ∙ omega (arith, s.index_small) in
      rw (a, b, c, d)

  module _ (lengths : List ℕ) (id place : ℕ) (short : too_long (asks.Control type request value index) size lengths ≡ false)
      (e : Endpoint) (none_stored : e.work.stored ≡ 0) (packets : List ℕ) where
    abbrev v : Record
    v = record_for (with_what given (asks.Control type request value index)) (length lengths) id place

    size_small : size ≤ longest_control
    size_small =
        ⊎_elim (λ (h : longest_control < size). absurd ((by_too_long_control type request value index size lengths).not_so short h))
        (λ (h : size ≤ longest_control). h) (lt_or_le longest_control size)

    no_data : (incoming : Bool) → Status true (not (incoming && false)) ≡ Status true true
    no_data true = refl
    no_data false = refl

    control_none : size ≡ 0 → upcoming 2 e v packets ≡ control_trbs type request value index address size (eqb (bits 7 1 type) 1)
    unfolding upcoming trb_of stepped
    control_none q = rw (none_stored, q, setup_fields 0 0, no_data (eqb (bits 7 1 type) 1))

    with_data : (incoming : Bool) → (incoming && true) ≡ incoming
    with_data true = refl
    with_data false = refl

    control_some : 0 < size → upcoming 3 e v packets ≡ control_trbs type request value index address size (eqb (bits 7 1 type) 1)
    unfolding upcoming trb_of stepped
    control_some h =
        let none : eqb size 0 ≡ false = ne_eqb size 0 (λ q. omega arith) in
        let more : ltb 0 size ≡ true = lt-ltb 0 size h in
        let word : size % 2 ^ 16 ≡ size = omega (arith, size_small) in
        let field : size % 2 ^ 17 ≡ size = omega (arith, size_small) in
        rw (none_stored, none, more, word, field, setup_fields size (pick (eqb (bits 7 1 type) 1) 3 2), with_data (eqb (bits 7 1 type) 1))

    control_asked : upcoming (required (with_what given (asks.Control type request value index)) (length lengths)) e v packets
        ≡ control_trbs type request value index address size (eqb (bits 7 1 type) 1)
    control_asked =
        ⊎_elim
        (λ (q : size ≡ 0). let none : eqb size 0 ≡ true = eq-eqb size 0 q in ap (λ (n : ℕ). upcoming n e v packets) (rw none refl) ∙ control_none q)
        (λ (q : size ≡ 0 → ⊥). let none : eqb size 0 ≡ false = ne_eqb size 0 q in ap (λ (n : ℕ). upcoming n e v packets)
        (rw none refl) ∙ control_some (omega arith))
        (same_or_not size 0)

-- ---- bulk and interrupt

module _ (incoming : Bool) (given : Request) (lengths : List ℕ) (id place : ℕ) (e : Endpoint) (packets : List ℕ) where
  normal_asked : (v : Record) → given.length ≤ longest
      → v ≡ record_for (with_what given (asks.Bulk incoming)) (length lengths) id place ⊎ v ≡ record_for (with_what given (asks.Interrupt incoming)) (length lengths) id place
      → upcoming 1 e v packets ≡ normal_trbs given.address given.length
  unfolding upcoming trb_of
  normal_asked v small (inl q) = let field : given.length % 2 ^ 17 ≡ given.length = omega arith in rw (q, field)
  normal_asked v small (inr q) = let field : given.length % 2 ^ 17 ≡ given.length = omega arith in rw (q, field)

  bulk_asked : too_long (asks.Bulk incoming) given.length lengths ≡ false
      → upcoming 1 e (record_for (with_what given (asks.Bulk incoming)) (length lengths) id place) packets ≡ normal_trbs given.address given.length
  bulk_asked short =
      normal_asked _
      (⊎_elim (λ (h : longest < given.length). absurd ((by_too_long_bulk incoming given.length lengths).not_so short h))
      (λ (h : given.length ≤ longest). h) (lt_or_le longest given.length))
      (inl refl)

  interrupt_asked : too_long (asks.Interrupt incoming) given.length lengths ≡ false
      → upcoming 1 e (record_for (with_what given (asks.Interrupt incoming)) (length lengths) id place) packets ≡ normal_trbs given.address given.length
  interrupt_asked short =
      normal_asked _
      (⊎_elim (λ (h : longest < given.length). absurd ((by_too_long_interrupt incoming given.length lengths).not_so short h))
      (λ (h : given.length ≤ longest). h) (lt_or_le longest given.length))
      (inr refl)

-- ---- ISO

module _ (incoming : Bool) (given : Request) (lengths : List ℕ) (id place : ℕ) (packets : List ℕ) where
  abbrev iso : Record
  iso = record_for (with_what given (asks.Isoch incoming)) (length lengths) id place

  -- The packets from the next one on ask for ns, and there are no others behind them.
  record Asks (e : Endpoint) (ns : List ℕ) : Type 0 where
    end : e.work.stored + length ns ≡ trb_count iso
    sizes : (j : ℕ) → j < length ns → (packet_at packets e.work.number (e.work.stored + j)).requested ≡ get_or ns j 0
    short : (j : ℕ) → j < length ns → get_or ns j 0 ≤ longest

  -- "bit 9 on all but the last packet".
  not_last : (k : ℕ) (ns : List ℕ) → k + suc (length ns) ≡ trb_count iso → not (eqb (k + 1) (trb_count iso)) ≡ some ns
  not_last k [] q = let last : k + 1 ≡ trb_count iso = omega arith in rw (eq-eqb _ _ last)
  not_last k (n ∷ ns) q = rw (ne_eqb (k + 1) (trb_count iso) (λ (l : k + 1 ≡ trb_count iso). omega arith))

  module _ (n : ℕ) (ns : List ℕ) (e : Endpoint) (a : Asks e (n ∷ ns)) where
    asked : (packet_at packets e.work.number e.work.stored).requested ≡ n
    asked = let z : e.work.stored + 0 ≡ e.work.stored = omega arith in rw z at (a.sizes 0 (omega arith))

    next_trb : trb_of e iso packets e.work.stored
        ≡ Isoch e.work.address n (bursts_of n e.periodic.packet e.periodic.burst).count 0 incoming false true (some ns)
        (bursts_of n e.periodic.packet e.periodic.burst).last 0 true
    unfolding trb_of
    next_trb =
        let field : n % 2 ^ 17 ≡ n = omega (arith, a.short 0 (omega arith)) in
        rw (asked, field, not_last e.work.stored ns a.end)

    next_asks : Asks (stepped the_trb e iso packets) ns
    unfolding stepped
    next_asks = record {
      end = omega (arith, a.end);
      sizes = λ j l. let z : e.work.stored + 1 + j ≡ e.work.stored + suc j = omega arith in rw z (a.sizes (suc j) (omega arith));
      short = λ j l. a.short (suc j) (omega arith);
    }

    next_address : isoch_trbs incoming (stepped the_trb e iso packets).periodic.packet (stepped the_trb e iso packets).periodic.burst (stepped the_trb e iso packets).work.address ns
        ≡ isoch_trbs incoming e.periodic.packet e.periodic.burst ((e.work.address + n) % 2 ^ 64) ns
    unfolding stepped
    next_address = rw asked

  iso_from : (ns : List ℕ) (e : Endpoint) → Asks e ns
      → upcoming (length ns) e iso packets ≡ isoch_trbs incoming e.periodic.packet e.periodic.burst e.work.address ns
  unfolding upcoming
  iso_from [] e a = refl
  iso_from (n ∷ ns) e a =
      ap₂ (λ (t : Trb) (ts : List Trb). t ∷ ts) (next_trb n ns e a)
      (iso_from ns (stepped the_trb e iso packets) (next_asks n ns e a) ∙ next_address n ns e a)

-- ---- any request

at_least : (ns : List ℕ) → length (at_least_one ns) ≡ max 1 (length ns)
at_least [] = refl
at_least (n ∷ ns) = omega arith

all_short : (ns : List ℕ) → ((k : ℕ) → k < length ns → get_or ns k 0 ≤ longest) → (k : ℕ) → k < length (at_least_one ns) → get_or (at_least_one ns) k 0 ≤ longest
all_short [] short zero l = omega arith
all_short [] short (suc k) l = absurd (omega arith)
all_short (n ∷ ns) short k l = short k l

-- The settings that an endpoint keeps.
abbrev pub settings_in : Endpoint → Settings
settings_in e = record { packet = e.periodic.packet; burst = e.periodic.burst; interval = e.periodic.interval }

-- An endpoint that has begun on the request in record r, under an id and from a place, with the request's packets written.
module _ (lengths : List ℕ) (id place r : ℕ) (packets : List ℕ) (sized : length packets ≡ packets_size) (within : r < record_count) (e : Endpoint) (none_stored : e.work.stored ≡ 0) (number : e.work.number ≡ r) where
  pub asked_for : (request : Request) → too_long request.what request.length lengths ≡ false → typed request.what ≡ true
      → e.work.address ≡ buffer_of request
      → upcoming (required request (length lengths)) e (record_for request (length lengths) id place)
      (write_packets packets r request.what lengths) ≡ trbs_of (settings_in e) request lengths
  asked_for given = by given.what
    where
      by : (what : What) → too_long what given.length lengths ≡ false → typed what ≡ true → e.work.address ≡ buffer_of given
          → upcoming (count_for what given.length (length lengths)) e (record_for (with_what given what) (length lengths) id place)
          (write_packets packets r what lengths) ≡ trbs_for (settings_in e) what given.address given.length lengths
      by (asks.Control type request value index) short fits at =
          control_asked type request value index given fits lengths id place short e none_stored
          (write_packets packets r (asks.Control type request value index) lengths)
      by (asks.Bulk incoming) short fits at =
          bulk_asked incoming given lengths id place e (write_packets packets r (asks.Bulk incoming) lengths) short
      by (asks.Interrupt incoming) short fits at =
          interrupt_asked incoming given lengths id place e (write_packets packets r (asks.Interrupt incoming) lengths) short
      by (asks.Isoch incoming) short fits at =
          let iso : Request = with_what given (asks.Isoch incoming) in
          let new : List ℕ = write_packets packets r (asks.Isoch incoming) lengths in
          let ns = at_least_one lengths in
          ap (λ (n : ℕ). upcoming n e (record_for iso (length lengths) id place) new) (sym (at_least lengths))
          ∙ iso_from incoming given lengths id place new ns e
          (record {
            end = omega (arith, none_stored, at_least lengths, count_is iso lengths id place short);
            sizes = λ j l.
                let z : e.work.stored + j ≡ j = omega arith in
                rw (number, z) (ap (λ (p : Packet). p.requested) (packet_written packets r incoming given.length lengths sized within short j l));
            short = all_short lengths (packet_short incoming given.length lengths short);
          })
          ∙ ap (λ (a : ℕ). isoch_trbs incoming e.periodic.packet e.periodic.burst a ns) at

-- As many as the request takes.
isoch_count : (incoming : Bool) (packet burst address : ℕ) (ns : List ℕ) → length (isoch_trbs incoming packet burst address ns) ≡ length ns
isoch_count incoming packet burst address [] = refl
isoch_count incoming packet burst address (n ∷ ns) = ap suc (isoch_count incoming packet burst ((address + n) % 2 ^ 64) ns)

control_count : (type request value index address size : ℕ) (incoming b : Bool) → eqb size 0 ≡ b
    → length (control_trbs type request value index address size incoming) ≡ pick b 2 3
control_count type request value index address size incoming true q = rw q
control_count type request value index address size incoming false q = rw q

pub trbs_count : (s : Settings) (request : Request) (lengths : List ℕ) → length (trbs_of s request lengths) ≡ required request (length lengths)
trbs_count s request lengths = counted request.what request.address request.length
  where
    counted : (what : What) (address size : ℕ) → length (trbs_for s what address size lengths) ≡ count_for what size (length lengths)
    counted (asks.Control type request value index) address size =
        control_count type request value index address size (eqb (bits 7 1 type) 1) (eqb size 0) refl
    counted (asks.Bulk incoming) address size = refl
    counted (asks.Interrupt incoming) address size = refl
    counted (asks.Isoch incoming) address size =
        isoch_count incoming s.packet s.burst (address_stored address size) (at_least_one lengths) ∙ at_least lengths

-- ---- none is a link

plain_trb : (t : Trb) → (type_number t ≡ 6 → ⊥) → link_type (bare t) ≡ false
unfolding link_type
plain_trb t other = ne_eqb (type_of (bare t)) 6 (λ q. other (sym (type_is t false) ∙ q))

module _ (K : ℕ) where
  isoch_plain : (incoming : Bool) (packet burst address : ℕ) (ns : List ℕ) → Plain (flat K) (bared (isoch_trbs incoming packet burst address ns))
  isoch_plain incoming packet burst address [] = tt
  isoch_plain incoming packet burst address (n ∷ ns) = (plain_trb _ (λ q. omega arith), isoch_plain incoming packet burst ((address + n) % 2 ^ 64) ns)

  control_plain : (type request value index address size : ℕ) (incoming : Bool)
      → Plain (flat K) (bared (control_trbs type request value index address size incoming))
  control_plain type request value index address size incoming =
      picked (λ (l : List Trb). Plain (flat K) (bared l)) (eqb size 0) _ _
      (λ t. (plain_trb _ (λ q. omega arith), (plain_trb _ (λ q. omega arith), tt)))
      (λ t. (plain_trb _ (λ q. omega arith), (plain_trb _ (λ q. omega arith), (plain_trb _ (λ q. omega arith), tt))))

  pub trbs_plain : (s : Settings) (request : Request) (lengths : List ℕ) → Plain (flat K) (bared (trbs_of s request lengths))
  trbs_plain s request lengths = plain request.what request.address request.length
    where
      plain : (what : What) (address size : ℕ) → Plain (flat K) (bared (trbs_for s what address size lengths))
      plain (asks.Control type request value index) address size =
          control_plain type request value index address size (eqb (bits 7 1 type) 1)
      plain (asks.Bulk incoming) address size = (plain_trb _ (λ q. omega arith), tt)
      plain (asks.Interrupt incoming) address size = (plain_trb _ (λ q. omega arith), tt)
      plain (asks.Isoch incoming) address size = isoch_plain incoming s.packet s.burst (address_stored address size) (at_least_one lengths)

pub link_is : (base : ℕ) (chain : Bool) → link_type (bare (link_trb base chain)) ≡ true
unfolding link_type
link_is base chain = eq-eqb (type_of (bare (link_trb base chain))) 6 (type_is (link_trb base chain) false)
