-- the machine, computed; it follows the rules; so a work that is computed is the one that the rules make
pub mod Computed
pub mod Follows
pub mod Runs
-- the rows that pass and those that do not; all the pieces
pub mod Rows
pub mod Pieces
