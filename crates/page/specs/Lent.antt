-- A page as the code has it, over bytes that a caller lends.
use Rattle.std.specs.Borrow.{GName}
use Rattle.page.specs.Page.{Page}
use Rattle.page.specs.declared.Page.{Page as Lent}

-- How many bytes stand on it, and all its bytes.
unfoldable pub shown : Lent → Page
shown p = (p.at, p.bytes.now)

-- The name of the loan. While a page keeps it, what the page's bytes are at last is what the lender then has.
abbrev pub loan : Lent → GName
loan p = p.bytes.ghost_name
