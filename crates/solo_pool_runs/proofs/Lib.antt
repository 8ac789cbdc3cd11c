pub mod Rises
mod Live
