pub mod Items
pub mod Along
pub mod Judged
pub mod Fills
pub mod Filling
pub mod Scanning
pub mod Zipped
pub mod ReadWhole
