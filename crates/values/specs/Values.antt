-- The values of a line, as the calls take them. The reader has seen to it that each is of its kind, so that nothing is cut here.
use Rattle.std.specs.Prelude.{ℕ, ◌+◌, ◌-◌, ◌%◌, ◌^◌, Bool, true, false, ◌&&◌, List, [], eqb, leb, ltb, length, get_or, take, drop, Option, None, Some}
use Rattle.base.specs.First.{pick}
use Rattle.trb.specs.declared.Words.{Words}
use Rattle.dock.specs.declared.Identity.{Identity}
use Rattle.dock.specs.declared.Request.{Request}
use Rattle.dock.specs.declared.Shape.{Shape}
use Rattle.dock.specs.declared.What.{What}
use Rattle.dock.specs.declared.What.TheVariants.{Control, Bulk, Interrupt, Isoch}
use Rattle.words.specs.declared.Word.{Word}
use Rattle.words.specs.declared.Word.TheVariants as words
use Rattle.lines.specs.declared.Line.{Line}
use Rattle.lines.specs.declared.Reading.{Reading}
use Rattle.lines.specs.Reader.{line_of}
use Rattle.values.specs.declared.Opening.{Opening}
use Rattle.values.specs.declared.Opening.TheVariants as opening

abbrev pub value : List ℕ → ℕ → ℕ
value values i = get_or values i 0

abbrev pub byte : ℕ → ℕ
byte v = v % 2 ^ 8

abbrev pub half : ℕ → ℕ
half v = v % 2 ^ 16

abbrev pub word : ℕ → ℕ
word v = v % 2 ^ 32

abbrev pub flagged : ℕ → Bool
flagged v = eqb v 1

-- A `ring` line has slots, base, mask, slot id and dci: the ring's numbers,
unfoldable pub shape_of : List ℕ → Shape
shape_of values = record { slots = value values 0; base = value values 1 }

-- and who the endpoint is.
unfoldable pub identity_of : List ℕ → Identity
identity_of values = record { slot = byte (value values 3); dci = byte (value values 4); mask = value values 2 }

-- "`control` gives request type (bit 7 is in), request, value, index, address, length; `bulk` in (0 or 1), address, length; `iso` the same, then the packet
-- lengths".
unfoldable pub what_of : Word → List ℕ → What
what_of words.Control values = Control (byte (value values 0)) (byte (value values 1)) (half (value values 2)) (half (value values 3))
what_of words.Iso values = Isoch (flagged (value values 0))
what_of words.Interrupt values = Interrupt (flagged (value values 0))
what_of name values = Bulk (flagged (value values 0))

-- Where the address stands; the length is behind it.
unfoldable pub address_at : Word → ℕ
address_at words.Control = 4
address_at name = 1

unfoldable pub request_of : Word → List ℕ → Request
request_of name values =
    record { what = what_of name values; address = value values (address_at name); length = value values (address_at name + 1) }

-- The packet lengths, of which `count` less three are there.
unfoldable pub lengths_of : Word → List ℕ → ℕ → List ℕ
lengths_of words.Iso values count = pick (leb 3 count && leb count (length values)) (take (count - 3) (drop 3 values)) []
lengths_of name values count = []

unfoldable pub event_of : List ℕ → Words
event_of values =
    record { w0 = word (value values 0); w1 = word (value values 1); w2 = word (value values 2); w3 = word (value values 3) }

-- A line that makes a ring: `ring`, and no word before it.
abbrev pub rings : Option Word → Word → Bool
rings None words.Ring = true
rings before w = false

unfoldable pub is_ring : Line → Bool
is_ring l = rings l.before l.word

-- A line with no ring made: it makes one, of at most so many slots ("else 13"), or it is bad.
abbrev pub opening_by : Option Line → List ℕ → ℕ → Opening
opening_by None values most = opening.Bad
opening_by (Some l) values most = pick (is_ring l) (pick (ltb most (value values 0)) opening.TooLarge opening.Ring) opening.Bad

unfoldable pub opening_of : Reading → List ℕ → ℕ → Opening
opening_of r values most = opening_by (line_of r) values most

-- A line with a ring made is bad where it cannot be read, or is "a `ring` after one was made".
abbrev pub bad_by : Option Line → Bool
bad_by None = true
bad_by (Some l) = is_ring l

unfoldable pub is_bad : Reading → Bool
is_bad r = bad_by (line_of r)
