-- The nodes that tokens name.
use Rattle.std.specs.Prelude.{ℕ, ◌<◌, ⊤}
use Rattle.certificate_graph.specs.declared.rows.Token.{Token}
use Rattle.certificate_graph.specs.declared.rows.Token.TheVariants.{Own, Reply, Branch, Child}

-- the tokens of a tree whose leaves name other nodes
abbrev pub rename_token : (ℕ → ℕ) → Token → Token
rename_token to (Own card) = Own card
rename_token to Reply = Reply
rename_token to (Branch card count) = Branch card count
rename_token to (Child winner number) = Child winner (to number)

-- the token names a node below this number, or none
abbrev pub NamesLess : ℕ → Token → Type 0
NamesLess count (Own card) = ⊤
NamesLess count Reply = ⊤
NamesLess count (Branch card after) = ⊤
NamesLess count (Child winner number) = number < count
