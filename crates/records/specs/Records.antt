-- A request record: what its twelve words say, and the words of a record. Document 01, module 4, and "What must change shape".
use Rattle.std.specs.Prelude.{ℕ, ◌+◌, ◌*◌, Bool, not, List, [], ◌∷◌, eqb, get_or, set}
use Rattle.base.specs.Fields.{flag}
use Rattle.sizes.specs.Sizes.{record_words}
use Rattle.records.specs.declared.Record.{Record}

-- The words that change while a record is held.
abbrev pub state_word : ℕ
state_word = 3

abbrev pub cancelled_word : ℕ
cancelled_word = 4

abbrev pub recorded_word : ℕ
recorded_word = 11

-- Word k of record r.
abbrev pub word_at : List ℕ → ℕ → ℕ → ℕ
word_at records r k = get_or records (record_words * r + k) 0

-- A flag is set by any word but 0.
abbrev pub is_set : ℕ → Bool
is_set w = not (eqb w 0)

-- Any words are a record: its fields by name, from the row of its words.
abbrev pub record_of : (ℕ → ℕ) → Record
record_of word =
    record {
      id = word 0;
      kind = word 1;
      incoming = is_set (word 2);
      state = word state_word;
      cancelled = is_set (word cancelled_word);
      address = word 5;
      length = word 6;
      setup = word 7;
      place = word 8;
      count = word 9;
      given = word 10;
      recorded = word recorded_word;
    }

-- Those of a part, and those of record r of a table.
abbrev pub part_of : List ℕ → ℕ → ℕ
part_of part k = get_or part k 0

unfoldable pub record_at : List ℕ → ℕ → Record
record_at records r = record_of (word_at records r)

-- The words of a record, in order.
abbrev pub record_list : Record → List ℕ
record_list v =
    v.id
    ∷ v.kind
    ∷ flag v.incoming
    ∷ v.state
    ∷ flag v.cancelled
    ∷ v.address
    ∷ v.length
    ∷ v.setup
    ∷ v.place
    ∷ v.count
    ∷ v.given
    ∷ v.recorded
    ∷ []

-- One word of a record changed, and no other.
unfoldable pub set_word : List ℕ → ℕ → ℕ → ℕ → List ℕ
set_word records r k value = set records (record_words * r + k) value
