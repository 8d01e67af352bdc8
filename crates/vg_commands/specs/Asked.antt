-- What is asked of members, for those who stand on this room.
pub use Rattle.vg_why.specs.Asked.{IsDeclaredIn, NoMemberIn}
pub use Rattle.vg_why.specs.Answer.{HasFault}
