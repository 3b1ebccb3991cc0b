-- The words of a session and of a drive, and the fields that each takes. Document 01, "A session is lines of text"; a drive's words are in docs/DRIVE.md.
use Rattle.std.specs.Prelude.{ℕ, ◌+◌, ◌-◌, ◌*◌, ◌/◌, ◌^◌, Bool, true, false, ◌||◌, List, [], ◌∷◌, eqb, Option, None, Some, unwrap_or}
use Rattle.base.specs.First.{pick}
use Rattle.words.specs.declared.Word.{Word}
use Rattle.words.specs.declared.Word.TheVariants.{Ring, Control, Bulk, Iso, Event, Reclaim, Cancel, Configure, Interrupt, Begin, Store, Whole, Slot, Retire, Stop, Resume, Reset, End, Pointer, Step, NextId, Poke, State, New, Finished, Records, Packets, Other}

-- The letters of a word make a number, a to z as the digits 1 to 26 of base 32; `spelling` has every word's letters beside it.
abbrev pub ring_word : ℕ
ring_word = 599495

abbrev pub control_word : ℕ
control_word = 3739896300

abbrev pub bulk_word : ℕ
bulk_word = 87435

abbrev pub iso_word : ℕ
iso_word = 9839

abbrev pub event_word : ℕ
event_word = 5969364

abbrev pub reclaim_word : ℕ
reclaim_word = 19498665261

abbrev pub cancel_word : ℕ
cancel_word = 102173868

abbrev pub configure_word : ℕ
configure_word = 3829174359621

abbrev pub interrupt_word : ℕ
interrupt_word = 10398303082004

abbrev pub begin_word : ℕ
begin_word = 2268462

abbrev pub store_word : ℕ
store_word = 20594245

abbrev pub whole_word : ℕ
whole_word = 24395141

abbrev pub slot_word : ℕ
slot_word = 635380

abbrev pub retire_word : ℕ
retire_word = 609887813

abbrev pub stop_word : ℕ
stop_word = 643568

abbrev pub resume_word : ℕ
resume_word = 609867173

abbrev pub reset_word : ℕ
reset_word = 19057844

abbrev pub end_word : ℕ
end_word = 5572

abbrev pub pointer_word : ℕ
pointer_word = 17693102258

abbrev pub step_word : ℕ
step_word = 643248

abbrev pub nextid_word : ℕ
nextid_word = 475812132

abbrev pub poke_word : ℕ
poke_word = 540005

abbrev pub state_word : ℕ
state_word = 20579973

abbrev pub new_word : ℕ
new_word = 14519

abbrev pub finished_word : ℕ
finished_word = 216301936804

abbrev pub records_word : ℕ
records_word = 19498780819

abbrev pub packets_word : ℕ
packets_word = 17216935571

abbrev pub spelling : List (ℕ × List ℕ)
spelling =
    (ring_word, 114 ∷ 105 ∷ 110 ∷ 103 ∷ [])
    ∷ (control_word, 99 ∷ 111 ∷ 110 ∷ 116 ∷ 114 ∷ 111 ∷ 108 ∷ [])
    ∷ (bulk_word, 98 ∷ 117 ∷ 108 ∷ 107 ∷ [])
    ∷ (iso_word, 105 ∷ 115 ∷ 111 ∷ [])
    ∷ (event_word, 101 ∷ 118 ∷ 101 ∷ 110 ∷ 116 ∷ [])
    ∷ (reclaim_word, 114 ∷ 101 ∷ 99 ∷ 108 ∷ 97 ∷ 105 ∷ 109 ∷ [])
    ∷ (cancel_word, 99 ∷ 97 ∷ 110 ∷ 99 ∷ 101 ∷ 108 ∷ [])
    ∷ (configure_word, 99 ∷ 111 ∷ 110 ∷ 102 ∷ 105 ∷ 103 ∷ 117 ∷ 114 ∷ 101 ∷ [])
    ∷ (interrupt_word, 105 ∷ 110 ∷ 116 ∷ 101 ∷ 114 ∷ 114 ∷ 117 ∷ 112 ∷ 116 ∷ [])
    ∷ (begin_word, 98 ∷ 101 ∷ 103 ∷ 105 ∷ 110 ∷ [])
    ∷ (store_word, 115 ∷ 116 ∷ 111 ∷ 114 ∷ 101 ∷ [])
    ∷ (whole_word, 119 ∷ 104 ∷ 111 ∷ 108 ∷ 101 ∷ [])
    ∷ (slot_word, 115 ∷ 108 ∷ 111 ∷ 116 ∷ [])
    ∷ (retire_word, 114 ∷ 101 ∷ 116 ∷ 105 ∷ 114 ∷ 101 ∷ [])
    ∷ (stop_word, 115 ∷ 116 ∷ 111 ∷ 112 ∷ [])
    ∷ (resume_word, 114 ∷ 101 ∷ 115 ∷ 117 ∷ 109 ∷ 101 ∷ [])
    ∷ (reset_word, 114 ∷ 101 ∷ 115 ∷ 101 ∷ 116 ∷ [])
    ∷ (end_word, 101 ∷ 110 ∷ 100 ∷ [])
    ∷ (pointer_word, 112 ∷ 111 ∷ 105 ∷ 110 ∷ 116 ∷ 101 ∷ 114 ∷ [])
    ∷ (step_word, 115 ∷ 116 ∷ 101 ∷ 112 ∷ [])
    ∷ (nextid_word, 110 ∷ 101 ∷ 120 ∷ 116 ∷ 105 ∷ 100 ∷ [])
    ∷ (poke_word, 112 ∷ 111 ∷ 107 ∷ 101 ∷ [])
    ∷ (state_word, 115 ∷ 116 ∷ 97 ∷ 116 ∷ 101 ∷ [])
    ∷ (new_word, 110 ∷ 101 ∷ 119 ∷ [])
    ∷ (finished_word, 102 ∷ 105 ∷ 110 ∷ 105 ∷ 115 ∷ 104 ∷ 101 ∷ 100 ∷ [])
    ∷ (records_word, 114 ∷ 101 ∷ 99 ∷ 111 ∷ 114 ∷ 100 ∷ 115 ∷ [])
    ∷ (packets_word, 112 ∷ 97 ∷ 99 ∷ 107 ∷ 101 ∷ 116 ∷ 115 ∷ [])
    ∷ []

-- The word whose letters make a number.
unfoldable pub word_of : ℕ → Option Word
word_of n =
    pick (eqb n ring_word) (Some Ring)
    (pick (eqb n control_word) (Some Control)
    (pick (eqb n bulk_word) (Some Bulk)
    (pick (eqb n iso_word) (Some Iso)
    (pick (eqb n event_word) (Some Event)
    (pick (eqb n reclaim_word) (Some Reclaim)
    (pick (eqb n cancel_word) (Some Cancel)
    (pick (eqb n configure_word) (Some Configure)
    (pick (eqb n interrupt_word) (Some Interrupt)
    (pick (eqb n begin_word) (Some Begin)
    (pick (eqb n store_word) (Some Store)
    (pick (eqb n whole_word) (Some Whole)
    (pick (eqb n slot_word) (Some Slot)
    (pick (eqb n retire_word) (Some Retire)
    (pick (eqb n stop_word) (Some Stop)
    (pick (eqb n resume_word) (Some Resume)
    (pick (eqb n reset_word) (Some Reset)
    (pick (eqb n end_word) (Some End)
    (pick (eqb n pointer_word) (Some Pointer)
    (pick (eqb n step_word) (Some Step)
    (pick (eqb n nextid_word) (Some NextId)
    (pick (eqb n poke_word) (Some Poke)
    (pick (eqb n state_word) (Some State)
    (pick (eqb n new_word) (Some New)
    (pick (eqb n finished_word) (Some Finished)
    (pick (eqb n records_word) (Some Records)
    (pick (eqb n packets_word) (Some Packets) None))))))))))))))))))))))))))

-- What any letters make: one of the words, or another.
unfoldable pub of_letters : ℕ → Word
of_letters n = unwrap_or (word_of n) (Other n)

-- ---- the kinds of fields

-- Decimal: a count, length or id of 64 bits, one of 8 and one of 16 bits, and a flag, 0 or 1. Hex: an address or mask of 64 bits, and fields of 8, 16
-- and 32 bits. Then a word that names another, and counts to the line's end.
abbrev pub count : ℕ
count = 1

abbrev pub address : ℕ
address = 2

abbrev pub octet : ℕ
octet = 3

abbrev pub hex8 : ℕ
hex8 = 4

abbrev pub hex16 : ℕ
hex16 = 5

abbrev pub hex32 : ℕ
hex32 = 6

abbrev pub flag : ℕ
flag = 7

abbrev pub count16 : ℕ
count16 = 8

abbrev pub name : ℕ
name = 14

abbrev pub counts : ℕ
counts = 15

-- A form: the kinds of a word's fields in order, as the hex digits of a number, the first field's the lowest.
abbrev pub form : List ℕ → ℕ
form [] = 0
form (kind ∷ kinds) = kind + 16 * form kinds

-- "`control` gives request type (bit 7 is in), request, value, index, address, length; `bulk` in (0 or 1), address, length; `iso` the same, then the packet
-- lengths".
abbrev pub control_form : ℕ
control_form = form (hex8 ∷ hex8 ∷ hex16 ∷ hex16 ∷ address ∷ count ∷ [])

abbrev pub bulk_form : ℕ
bulk_form = form (flag ∷ address ∷ count ∷ [])

abbrev pub iso_form : ℕ
iso_form = form (flag ∷ address ∷ count ∷ counts ∷ [])

-- "`ring` gives L (here at most 256, else 13), base, mask, slot id, dci"; an event its four words; a reclaim and a cancel an id.
abbrev pub ring_form : ℕ
ring_form = form (count ∷ address ∷ address ∷ octet ∷ octet ∷ [])

abbrev pub event_form : ℕ
event_form = form (hex32 ∷ hex32 ∷ hex32 ∷ hex32 ∷ [])

unfoldable pub session_form : Word → Option ℕ
session_form Ring = Some ring_form
session_form Control = Some control_form
session_form Bulk = Some bulk_form
session_form Iso = Some iso_form
session_form Event = Some event_form
session_form Reclaim = Some count
session_form Cancel = Some count
session_form w = None

-- A drive's words that take no field, that take one count, and that name another word.
unfoldable pub is_bare : Word → Bool
is_bare Store = true
is_bare Retire = true
is_bare Stop = true
is_bare Resume = true
is_bare Reset = true
is_bare Pointer = true
is_bare State = true
is_bare New = true
is_bare w = false

unfoldable pub takes_count : Word → Bool
takes_count Slot = true
takes_count Step = true
takes_count NextId = true
takes_count w = false

unfoldable pub takes_name : Word → Bool
takes_name Begin = true
takes_name Whole = true
takes_name Poke = true
takes_name w = false

-- Max packet, burst and interval: "a u16 and two u8".
unfoldable pub own_form : Word → Option ℕ
own_form End = Some flag
own_form Configure = Some (form (count16 ∷ octet ∷ octet ∷ []))
own_form Interrupt = Some bulk_form
own_form w = session_form w

unfoldable pub drive_form : Word → Option ℕ
drive_form w =
    pick (is_bare w) (Some 0)
    (pick (takes_count w) (Some count)
    (pick (takes_name w) (Some name) (own_form w)))

-- Behind `begin` or `whole`: a request.
unfoldable pub request_form : Word → Option ℕ
request_form Control = Some control_form
request_form Bulk = Some bulk_form
request_form Interrupt = Some bulk_form
request_form Iso = Some iso_form
request_form w = None

-- Behind `poke`: a table, an index and a word as large as the table's.
unfoldable pub table_form : Word → Option ℕ
table_form Ring = Some (form (count ∷ hex32 ∷ []))
table_form Finished = Some (form (count ∷ hex32 ∷ []))
table_form Records = Some (form (count ∷ address ∷ []))
table_form Packets = Some (form (count ∷ address ∷ []))
table_form w = None

-- The form of a word, behind another or as the line's first. A session has its own words alone.
unfoldable pub form_behind : Option Word → Word → Option ℕ
form_behind None w = drive_form w
form_behind (Some Poke) w = table_form w
form_behind (Some before) w = request_form w

unfoldable pub form_of : Bool → Option Word → Word → Option ℕ
form_of full before w = pick full (form_behind before w) (session_form w)

-- ---- what a kind is

-- "addresses, words and control fields in hex, counts and ids in decimal."
unfoldable pub is_hex : ℕ → Bool
is_hex kind = eqb kind address || (eqb kind hex8 || (eqb kind hex16 || eqb kind hex32))

unfoldable pub base_of : ℕ → ℕ
base_of kind = pick (is_hex kind) 16 10

-- The largest number of a kind.
unfoldable pub most_of : ℕ → ℕ
most_of kind =
    pick (eqb kind octet || eqb kind hex8) (2 ^ 8 - 1)
    (pick (eqb kind hex16 || eqb kind count16) (2 ^ 16 - 1)
    (pick (eqb kind hex32) (2 ^ 32 - 1)
    (pick (eqb kind flag) 1 (2 ^ 64 - 1))))

-- The form behind a form's first field; counts go on to the line's end.
unfoldable pub rest_of : ℕ → ℕ
rest_of f = pick (eqb f counts) f (f / 16)
