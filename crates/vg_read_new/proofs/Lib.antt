pub mod OtherKids
