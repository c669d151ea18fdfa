pub mod Walks
pub mod Lines
pub mod Given
pub mod Due
pub mod Once
pub mod Recalling
pub mod Dealt
pub mod Alike
