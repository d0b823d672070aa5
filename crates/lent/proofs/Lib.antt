-- The walks, one for each shape of a function over a lent record: a reset and a write over any, a play over the DAC's; and, by a step that takes the loan itself, a write and a play over any type.
pub mod Play
pub mod PlayOn
pub mod Reset
pub mod Write
pub mod WriteOn
