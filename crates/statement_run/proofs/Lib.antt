mod Steps
mod Tables
mod Readable
mod Binding
