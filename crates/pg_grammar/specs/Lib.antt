-- Grammars as relations, and the contract of the functions that read them.
--
-- A crate above writes its grammar with the combinators of Languages, rule for rule, and for each rule a parse function
-- with `ensures { Reads L follows tokens.now (seen result) }`: what it reads is a word of L and the only one, and a
-- fault stands exactly where no word goes on. `follows` says which next token, or the end, may stand behind.
-- 1. small functions over slices answer Options equal to `first_of f tokens` and `after p tokens` (Fronts)
-- 2. what is read from the front leads on: leads_token, leads_one, leads_bind, leads_left, leads_right, leads_more,
--    leads_no_more, leads_reaches, leads_knot, joined by leads_on; a loop keeps `Leads L tokens M rest follows`
-- 3. a function ends in reads_gives, reads_one, reads_refused, reads_over or reads_bind_failed, given to `.to`
-- 4. these ask what a part begins with (Starts), that it cannot begin here (Bars), that it has a word (Spelled, Begun):
--    one lemma a combinator in proofs/Words; a choice by several tokens is leads_left_by, leads_right_by
-- 5. brackets of any depth by a loop: proofs/Nesting; all of the tokens: reads_whole
-- 6. a rule of several parts is written as data (proofs/Rules), its parts as languages; that it fits is found by
--    `search` from what is known of them, and what it begins with, a word of it and its one reading come of that
--    (proofs/Fitting); each exit of its function is `search` with the `steps` of proofs/Reading and the facts of the
--    steps before it
pub mod Limits
pub mod Languages
pub mod Answers
pub mod Parts
pub mod Fronts
