pub mod Fields
pub mod Items
pub mod Listed
pub mod Counted
pub mod Tables
pub mod Planned
pub mod Values
pub mod Filled
pub mod Among
pub mod Entered
pub mod Found
pub mod MostNamed
pub mod Only
pub mod Bounded
pub mod Joined
pub mod All
pub mod Whole
pub mod Sizes
pub mod Rams
mod Entries
mod Told
mod Written
mod Arrays
pub mod WholeRows
