-- A block of a lent table: what a call that is lent the block does to it, and to the whole list. Said over the block's width.
use Rattle.std.specs.Prelude.{ℕ, ◌*◌, Bool, true, false, List, ◌++◌, eqb, length, take, drop}
use Rattle.base.specs.First.{pick}

-- The answer, and the part afterwards. A part of `wide` numbers takes the new ones; any other stays as it is.
unfoldable pub filled : ℕ → List ℕ → List ℕ → Bool × List ℕ
filled wide part new = pick (eqb (length part) wide) (true, new) (false, part)

-- Block `block` of a list of blocks of `wide` numbers.
unfoldable pub block_of : ℕ → List ℕ → ℕ → List ℕ
block_of wide l block = take wide (drop (wide * block) l)

-- The list with new numbers in the place of those of block `block`, and every other number as it was.
unfoldable pub put : ℕ → List ℕ → ℕ → List ℕ → List ℕ
put wide l block new = take (wide * block) l ++ (new ++ drop wide (drop (wide * block) l))
