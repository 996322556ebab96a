-- K7, piece by piece: why a card moved.
pub mod Tests
pub mod Ends
pub mod Steps
