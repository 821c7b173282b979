-- The limits of a statement that are kept token by token.
use Rattle.std.specs.Prelude.{ℕ}

-- nodes of a tree on one path, and sources of a FROM or a USING list
pub data Limit : Type 0 where
  nodes : Limit
  sources : Limit

-- how many of each a statement may have
abbrev pub most : Limit → ℕ
most nodes = 64
most sources = 8
