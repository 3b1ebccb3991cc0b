-- The next store as the code names it.
use Rattle.std.specs.Prelude.{Option, Some, None}
use Rattle.dock.specs.RowOne.{Next, the_link, the_trb, the_first, none}
use Rattle.checks.specs.declared.Next as code
use Rattle.checks.specs.declared.Next.TheVariants.{Link, Trb, First}

-- What the code's answer stands for.
abbrev pub named : Option code.Next → Next
named (Some Link) = the_link
named (Some Trb) = the_trb
named (Some First) = the_first
named None = none
