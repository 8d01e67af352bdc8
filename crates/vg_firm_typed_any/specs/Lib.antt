pub mod TypedFor
