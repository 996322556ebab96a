-- exp less 1: next to 0 the argument, elsewhere exp in double.
pub mod Sides
pub mod Gathered
pub mod Rounded
pub mod Exact
pub mod Tiny
pub mod Away
pub mod Ends
pub mod Laws
