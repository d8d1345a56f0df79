pub mod Format
pub mod Reader
pub mod Opening
pub mod Tags
