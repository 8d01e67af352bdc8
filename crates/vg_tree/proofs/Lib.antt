pub mod RowLists
pub mod ArmLists
pub mod KidLists
pub mod TypeLists
