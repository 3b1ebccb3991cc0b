-- The first free id, over any number n of records: record r is held where f r is true, and has the id ids r.
use Rattle.std.specs.Prelude.{◌≡◌, Bool, true, false, ◌&&◌, ◌||◌, List, ℕ, zero, suc, ◌*◌, ◌<◌, eqb, get_or}
use Rattle.mask.specs.Occupancy.{held}
use Rattle.mask.specs.declared.Occupancy.{Occupancy}
use Rattle.sizes.specs.Sizes.{record_count, record_words}
use Rattle.ids.specs.Order.{after_id, after_n}
use Rattle.ids.specs.declared.Taken.{Taken}

-- Is record r held, and has it the id x?
unfoldable pub held_by : (ℕ → Bool) → (ℕ → ℕ) → ℕ → ℕ → Bool
held_by f ids x r = f r && eqb (ids r) x

-- Does some record below n pass the test?
unfoldable pub any : ℕ → (ℕ → Bool) → Bool
any zero test = false
any (suc n) test = test n || any n test

-- Is the id x held, by one of the n records?
abbrev pub is_held : ℕ → (ℕ → Bool) → (ℕ → ℕ) → ℕ → Bool
is_held n f ids x = any n (held_by f ids x)

-- The id x, if it is free, else the first free id after it, going no more than n steps on.
unfoldable pub free_from : (ℕ → Bool) → ℕ → ℕ → ℕ
free_from held zero x = x
free_from held (suc n) x = elim (held x) [ true ↦ free_from held n (after_id x) | false ↦ x ]

-- The id that a search from s takes: at most n ids are held, so n steps are enough (`answer_free`).
unfoldable pub free_id : ℕ → (ℕ → Bool) → (ℕ → ℕ) → ℕ → ℕ
free_id n f ids s = free_from (is_held n f ids) n s

-- The same in words: r is the k-th id after s, it is free, and those before it are not.
pub record FirstFree (held : ℕ → Bool) (s r : ℕ) : Type 0 where
  pub steps : ℕ
  pub reached : r ≡ after_n steps s
  pub free : held r ≡ false
  pub before : (j : ℕ) → j < steps → held (after_n j s) ≡ true

-- The id of record r of a table, its word 0.
abbrev pub id_at : List ℕ → ℕ → ℕ
id_at records r = get_or records (record_words * r) 0

-- The first free id of a table from s on, where the records are held that the occupancy says.
abbrev pub free_in : List ℕ → Occupancy → ℕ → ℕ
free_in records occupancy s = free_id record_count (held occupancy) (id_at records) s

-- The answer that takes the id x: the next search starts after it.
abbrev pub taken : ℕ → Taken
taken x = record { id = x; next = after_id x }
